pub mod Hire
pub mod Tick
pub mod Registers

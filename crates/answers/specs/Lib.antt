pub mod Registers
pub mod Answers
pub mod Making
pub mod Length

pub mod Recorded
pub mod Switches

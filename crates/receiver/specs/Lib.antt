pub mod Receiver
pub mod Line
pub mod Heard
pub mod Taking

pub mod Lines
pub mod Words
pub mod Numbers
pub mod Digits
pub mod Scan

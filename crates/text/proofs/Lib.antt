pub mod Places
pub mod Standing
pub mod Scanning
pub mod Reading
pub mod Entering
pub mod Holding
pub mod Writing
pub mod Decimal
pub mod Zeros
pub mod ReadBack
mod Facts

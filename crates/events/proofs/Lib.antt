pub mod Moved
pub mod Counts
pub mod Records
pub mod Saved
mod Facts

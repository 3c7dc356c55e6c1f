pub mod Records
pub mod Account
pub mod Blocks
mod Facts

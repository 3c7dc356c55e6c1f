pub mod Shape
pub mod Asked
pub mod Promises
pub mod Opened
mod Rows
pub mod Deaf
pub mod Account
pub mod Demands

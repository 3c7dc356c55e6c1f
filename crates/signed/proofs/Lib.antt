pub mod Read
pub mod Lifted
pub mod Compared
mod Facts

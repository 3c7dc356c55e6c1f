pub mod Walks
pub mod Order
pub mod Tidied
pub mod Replaced
mod Facts

pub mod Laws
pub mod Kept
mod Facts

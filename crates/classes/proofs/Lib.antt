pub mod Pieces
pub mod Made
pub mod Rows
pub mod Sinking
pub mod Recalled
pub mod Laws
mod Facts

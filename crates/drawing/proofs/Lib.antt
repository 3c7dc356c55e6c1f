pub mod InTurn
pub mod Scaling
pub mod Outline
pub mod Boxes
pub mod Times
mod Laws
mod Facts

pub mod Loops
mod Facts

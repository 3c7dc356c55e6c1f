pub mod Kept
mod Facts

pub mod Writing
pub mod ReadBack
mod Facts

pub mod Tags
pub mod Outcomes
pub mod Sound
pub mod Lengths
mod Facts

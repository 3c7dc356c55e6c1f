pub mod Moments
pub mod Back
pub mod Stretch
mod Facts

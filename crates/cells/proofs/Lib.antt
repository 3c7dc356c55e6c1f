pub mod SomeEvery
pub mod Document01
pub mod Downward
mod Facts

pub mod Texts
mod Facts

pub mod Line
mod Facts

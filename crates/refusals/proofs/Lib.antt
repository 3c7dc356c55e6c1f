pub mod Rows
mod Facts

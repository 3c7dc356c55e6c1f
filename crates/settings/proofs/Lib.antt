pub mod Hundred
pub mod Drafts
pub mod Why
mod Facts

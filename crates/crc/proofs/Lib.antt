pub mod Listed
pub mod Carried
mod Examples

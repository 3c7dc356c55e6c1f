mod Facts
pub mod LastPut
pub mod Why

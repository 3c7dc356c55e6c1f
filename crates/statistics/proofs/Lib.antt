pub mod Distance
pub mod Document01
mod Facts

pub mod Spells
pub mod Laws

pub mod Store
pub mod Steps
pub mod Laws

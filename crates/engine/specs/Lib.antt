pub mod Engine
pub mod Looks
pub mod Week

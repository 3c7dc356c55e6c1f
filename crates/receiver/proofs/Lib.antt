pub mod Filling
pub mod Held
pub mod Heard
pub mod Through
pub mod Cutting

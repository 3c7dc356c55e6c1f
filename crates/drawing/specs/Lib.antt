pub mod Heights
pub mod Paths
pub mod Marks

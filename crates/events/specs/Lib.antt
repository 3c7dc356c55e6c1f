pub mod Events
pub mod Area

pub mod OneRecord
pub mod Whole
pub mod Kept
pub mod Steps
pub mod GoingOn
pub mod Enough
pub mod Recorded
pub mod Engines

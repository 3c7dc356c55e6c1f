pub mod Recording
pub mod GoingOn

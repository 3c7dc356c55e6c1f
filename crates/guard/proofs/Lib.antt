pub mod Switches
pub mod CellRows
pub mod Account
pub mod Calm
pub mod QuietTicks
pub mod Document01
mod Facts

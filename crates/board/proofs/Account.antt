-- The board stepped call by call is the board that the history of its calls makes: tick by tick, call by call; and what that says of
-- the things that a caller is shown.
-- Assumes nothing.
pub mod Deeds
pub mod Settings
pub mod Tick
pub mod Calls
pub mod Shown

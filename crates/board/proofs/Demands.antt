-- The three demands, of our board; and that after 300 quiet ticks in a row nothing is latched.
-- Assumes nothing.
pub mod Demand1
pub mod Demand2
pub mod QuietTicks
pub mod Demand3

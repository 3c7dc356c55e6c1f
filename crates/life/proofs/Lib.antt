pub mod Facts
pub mod OneTick
pub mod Recovers
pub mod Latched
pub mod Switches
pub mod Others
pub mod TickRecords
pub mod WrongBoards

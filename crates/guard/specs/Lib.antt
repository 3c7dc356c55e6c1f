pub mod Guard
pub mod Table
pub mod Account
pub mod Quiet

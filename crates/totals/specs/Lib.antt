pub mod Totals
pub mod Account

pub mod Payloads
pub mod Made
pub mod Lists
pub mod Exact
pub mod Taking
pub mod Blocks

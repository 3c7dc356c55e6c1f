pub mod Cabinet

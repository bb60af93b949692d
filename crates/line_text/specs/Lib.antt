pub mod Hex
pub mod Number

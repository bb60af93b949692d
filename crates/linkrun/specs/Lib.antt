pub mod Fault
pub mod Hex
pub mod Line

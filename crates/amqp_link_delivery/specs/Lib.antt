pub mod Copies
pub mod SendResults

pub mod Order
pub mod Runs

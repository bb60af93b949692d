pub mod Counting
pub mod Report

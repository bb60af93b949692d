pub mod Disposing
pub mod Exchanging
pub mod Fates
pub mod Ledgers
pub mod Sends

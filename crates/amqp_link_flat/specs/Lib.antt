pub mod Attaches
pub mod Flat
pub mod Numbers
pub mod Refusing
pub mod Statuses
pub mod Transfers

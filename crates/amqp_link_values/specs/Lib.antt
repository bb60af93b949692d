pub mod Code
pub mod Copies
pub mod Data
pub mod Length
pub mod Same
pub mod SameLaws
pub mod TagBytes
pub mod View

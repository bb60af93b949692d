pub mod Boxes
pub mod Holders
pub mod Objects
pub mod States

pub mod GenericLemmas
pub mod Worked

pub mod Halving
pub mod SentLemmas
pub mod TestLemmas
pub mod Worked

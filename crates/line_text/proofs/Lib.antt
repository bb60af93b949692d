pub mod DigitLemmas
pub mod NumberLemmas

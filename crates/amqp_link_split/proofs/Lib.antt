pub mod FitLemmas
pub mod FrameLemmas
pub mod SplitLemmas

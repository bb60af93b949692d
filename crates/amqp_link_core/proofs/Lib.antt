pub mod CountLemmas
pub mod CutLemmas
pub mod MergeLemmas
pub mod ResumingLemmas
pub mod Worked

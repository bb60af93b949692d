pub mod EndingLemmas
pub mod GroupLemmas
pub mod ListLemmas
pub mod DispositionFrameLemmas
pub mod Worked

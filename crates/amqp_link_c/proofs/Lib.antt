pub mod AttachLemmas
pub mod TakeLemmas

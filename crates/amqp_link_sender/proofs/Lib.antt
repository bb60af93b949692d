pub mod AbortLemmas
pub mod AttachLemmas

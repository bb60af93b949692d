pub mod AttachLemmas

pub mod CopyLemmas
pub mod Entries
pub mod SameLevels
pub mod Worked

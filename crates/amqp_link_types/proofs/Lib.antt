pub mod CopyLemmas
pub mod EntriesLemmas
pub mod MapLemmas
pub mod SizeLemmas
pub mod Sizes
pub mod StatesLemmas
pub mod Worked

pub mod ReplayLemmas
pub mod TallyLemmas

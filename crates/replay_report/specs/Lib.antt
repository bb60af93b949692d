pub mod Answers
pub mod Comparing
pub mod Counting
pub mod Left
pub mod Replays

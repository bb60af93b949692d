pub mod SerialLemmas
pub mod Worked

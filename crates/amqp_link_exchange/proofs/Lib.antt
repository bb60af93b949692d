pub mod OnceLemmas
pub mod PlanLemmas
pub mod Worked

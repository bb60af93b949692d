pub mod LineLemmas
pub mod HexLemmas

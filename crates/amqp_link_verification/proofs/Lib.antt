pub mod TerminiLemmas

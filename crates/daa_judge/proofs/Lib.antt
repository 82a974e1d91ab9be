pub mod JudgedLemmas
pub mod MatchingLemmas

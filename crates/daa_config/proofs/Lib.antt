pub mod KeyLemmas
pub mod TextLemmas
pub mod RangeLemmas
pub mod GridLemmas
pub mod CandidateLemmas
pub mod LevelLemmas
pub mod BeforeLemmas
pub mod GreatestLemmas

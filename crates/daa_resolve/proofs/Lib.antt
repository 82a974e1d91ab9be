pub mod BestLemmas
pub mod OpenOnSideLemmas
pub mod OneResolution
pub mod SomeResolution
pub mod BoardLemmas

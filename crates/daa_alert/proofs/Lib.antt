pub mod GreatestLevels
pub mod HalvingLemmas
pub mod AlertLemmas
pub mod OneAlert
pub mod SomeAlert
pub mod DecidableAlerts

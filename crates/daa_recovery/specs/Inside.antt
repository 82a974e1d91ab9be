-- Cited by private functions, tests and proofs alone; believe only what docs/PROVED.md names here.
pub mod OutlookState
pub mod Search
pub mod Legs
pub mod Sides

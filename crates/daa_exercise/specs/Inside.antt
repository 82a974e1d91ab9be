-- Cited by private functions, tests and proofs alone; believe only what docs/PROVED.md names here.
pub mod Drawing
pub mod Counting
pub mod Stints

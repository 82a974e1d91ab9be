-- Cited by private functions, tests and proofs alone; believe only what docs/PROVED.md names here.
pub mod Rests
pub mod Sides
pub mod Starts
pub mod Search

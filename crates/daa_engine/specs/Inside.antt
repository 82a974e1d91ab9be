-- Cited by private functions, tests and proofs alone; believe only what docs/PROVED.md names here.
pub mod EngineState
pub mod Merging
pub mod Findings
pub mod Written

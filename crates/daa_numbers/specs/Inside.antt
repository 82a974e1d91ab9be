-- Cited by private functions, tests and proofs alone; believe only what docs/PROVED.md names here.
pub mod Asked
pub mod Closing
pub mod Codes
pub mod Flown
pub mod Lines

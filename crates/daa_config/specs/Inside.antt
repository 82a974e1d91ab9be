-- Cited by private functions, tests and proofs alone; believe only what docs/PROVED.md names here.
pub mod Stepped
pub mod Counts
pub mod Rows
pub mod Written
pub mod Numbers

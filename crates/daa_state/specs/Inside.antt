-- Cited by private functions, tests and proofs alone; believe only what docs/PROVED.md names here.
pub mod Texts
pub mod IdCells
pub mod InRange
pub mod Number

-- Cited by private functions, tests and proofs alone; believe only what docs/PROVED.md names here.
pub mod Between
pub mod Cone
pub mod Heights

-- Cited by private functions, tests and proofs alone; believe only what docs/PROVED.md names here.
pub mod Packed
pub mod Needs
pub mod Nesting
pub mod Refusal
pub mod Sharing
pub mod Encounter
pub mod Rounds
pub mod Trunks
pub mod Marking
pub mod Scene

-- Cited by private functions, tests and proofs alone; believe only what docs/PROVED.md names here.
pub mod View
pub mod Rule
pub mod Steps
pub mod Tour
pub mod Pool
pub mod Dealing
pub mod Numbers

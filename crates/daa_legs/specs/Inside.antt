-- Cited by private functions, tests and proofs alone; believe only what docs/PROVED.md names here.
pub mod FlightState
pub mod Shared
pub mod Branch
pub mod OnWay

-- Cited by private functions, tests and proofs alone; believe only what docs/PROVED.md names here.
pub mod Lines
pub mod Events
pub mod Moment
pub mod Checkpoint
pub mod Status
pub mod Opening
pub mod Batch
pub mod Replay
pub mod Judge
pub mod Run

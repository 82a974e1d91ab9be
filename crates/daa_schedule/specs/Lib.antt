pub mod Answers
pub mod CoreState
pub mod Core
pub mod Step
pub mod Runs
pub mod Example
pub mod Inside

pub mod Workers
pub mod Faults
pub mod Steps
pub mod Runs
pub mod Fields
pub mod Histories

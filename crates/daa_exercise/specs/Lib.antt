pub mod Outputs
pub mod Moments
pub mod Taken
pub mod Levels
pub mod Summary
pub mod Inside

pub mod Delayed
pub mod Last
pub mod Inside

pub mod Rounding
pub mod Sines
pub mod Gaps
pub mod Ways
pub mod Courses
pub mod Sight
pub mod Inside

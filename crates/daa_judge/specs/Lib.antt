pub mod Judged
pub mod Found
pub mod Matching
pub mod Sheet
pub mod Inside

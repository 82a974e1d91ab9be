pub mod Hit
pub mod Inside

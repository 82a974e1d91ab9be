pub mod Quad
pub mod Inside

pub mod Side
pub mod Open
pub mod Resolution
pub mod Inside

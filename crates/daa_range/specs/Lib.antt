pub mod Range
pub mod Word

pub mod Wider
pub mod Offset
pub mod InTruth

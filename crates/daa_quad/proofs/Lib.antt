pub mod Sizes
pub mod Parabolas

pub mod Bands
pub mod Heights

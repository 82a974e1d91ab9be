pub mod Sizes
pub mod SineLemmas
pub mod WayLemmas
pub mod PlaceLemmas
pub mod CourseLemmas
pub mod SightLemmas

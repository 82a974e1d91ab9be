pub mod Delays
mod LateRuns
mod Climbs
mod Rests
mod Sides
mod Walking
mod Starting
pub mod Searching
mod Openness
pub mod SomeLast

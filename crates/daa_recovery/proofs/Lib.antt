pub mod Horizons
pub mod LaterSeconds
pub mod ClosingLevels
pub mod LastLegs
pub mod Raising
pub mod WalkedSides
pub mod StraightRests
pub mod Searching
pub mod SomeRecovery
mod Places
pub mod OneRecovery
pub mod EitherSide
pub mod Cylinders

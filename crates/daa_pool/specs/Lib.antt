pub mod View
pub mod Seat
pub mod Claim
pub mod Work
pub mod History
pub mod Pool
pub mod Inside

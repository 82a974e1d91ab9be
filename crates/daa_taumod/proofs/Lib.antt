pub mod ClosestApproach

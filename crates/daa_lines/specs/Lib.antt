pub mod LinesOf
pub mod Joined
pub mod LinesState
pub mod ComesFrom
pub mod Feeding
pub mod Taking
pub mod Ending
pub mod Inside

pub mod Covered
pub mod EngineState
pub mod MomentText
pub mod PlainText
pub mod Longest
pub mod Clear
pub mod ClearText
pub mod Inside

pub mod OutlookState
pub mod Order
pub mod Recovery
pub mod Inside

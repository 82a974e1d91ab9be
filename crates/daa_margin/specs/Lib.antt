pub mod ErrorBounds
pub mod MayViolate
pub mod Later
pub mod Examples
pub mod Inside

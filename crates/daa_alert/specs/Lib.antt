pub mod Alert
pub mod Inside

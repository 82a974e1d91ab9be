pub mod Command
pub mod Task
pub mod Order
pub mod Laws
pub mod Inside

pub mod WholeStories
pub mod Published

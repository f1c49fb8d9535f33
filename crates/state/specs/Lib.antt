pub mod Fresh
pub mod Range
pub mod Shape

pub mod Either
pub mod Layers
pub mod Marked
pub mod Meets
pub mod Seen
pub mod Theorem
pub mod Told

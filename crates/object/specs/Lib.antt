pub mod Apply
pub mod Depth
pub mod Each
pub mod Paper
pub mod Plain

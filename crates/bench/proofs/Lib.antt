pub mod Enough
pub mod Examples
pub mod InPlace
pub mod Putting
pub mod Service
pub mod Spelled
pub mod Versions

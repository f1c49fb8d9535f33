pub mod Bytes
pub mod Cursor
pub mod Examples
pub mod Layout
pub mod Promise
pub mod Reading

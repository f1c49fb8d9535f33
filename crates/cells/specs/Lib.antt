pub mod Cells
pub mod Laid
pub mod Promise
pub mod Rows
pub mod Shown
pub mod Text

pub mod Follows
pub mod Numbers
pub mod Rows
pub mod Table

pub mod Claims
pub mod Entries
pub mod Marked
pub mod Result
pub mod Sharp

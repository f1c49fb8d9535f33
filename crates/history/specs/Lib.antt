pub mod Copies
pub mod Entries
pub mod History
pub mod Method
pub mod Terms

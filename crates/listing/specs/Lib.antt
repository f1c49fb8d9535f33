pub mod Examples
pub mod Listing
pub mod Promise

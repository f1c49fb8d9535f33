pub mod Examples
pub mod Pages
pub mod Promise
pub mod Table

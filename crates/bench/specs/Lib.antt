pub mod Answer
pub mod Promise
pub mod Records
pub mod Run

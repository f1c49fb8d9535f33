pub mod Example
pub mod Head
pub mod Lengths
pub mod Records
pub mod Service

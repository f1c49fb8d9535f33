pub mod Example
pub mod Paging
pub mod Places
pub mod Printing
pub mod Run
pub mod Service
pub mod Telling
pub mod Width

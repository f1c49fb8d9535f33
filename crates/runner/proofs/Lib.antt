pub mod Invariant
pub mod Playing
pub mod Quiet
pub mod Running
pub mod Tabled
pub mod Tables

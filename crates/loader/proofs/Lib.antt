pub mod Decoded
pub mod Schedule
pub mod Threads
pub mod Walk

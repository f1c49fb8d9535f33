pub mod NextLine
pub mod Null
pub mod Refusal
pub mod Swap
pub mod Written

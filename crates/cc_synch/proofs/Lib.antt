pub mod NextLine
pub mod Refusal
pub mod Written

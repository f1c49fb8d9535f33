pub mod Decimal
pub mod Giving
pub mod Laid
pub mod Numbered
pub mod Rows
pub mod Shown
pub mod Words

pub mod Control
pub mod Cost
pub mod Data
pub mod Ledger
pub mod Stages
pub mod Tip
pub mod View

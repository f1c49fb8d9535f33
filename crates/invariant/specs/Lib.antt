pub mod Control
pub mod Data
pub mod Ledger
pub mod Remote
pub mod Serving
pub mod Stages
pub mod View
pub mod Waits

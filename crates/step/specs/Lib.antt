pub mod ByMethod
pub mod DsmEntry
pub mod DsmSteps
pub mod Entry
pub mod Past
pub mod Step
pub mod Steps

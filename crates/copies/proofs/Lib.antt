pub mod Bits
pub mod ByPlace
pub mod Holding
pub mod Owners
pub mod References
pub mod Shifts
pub mod Valid

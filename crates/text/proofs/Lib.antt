pub mod Decimal
pub mod Appending
pub mod Lines
pub mod Cases
pub mod Outcomes

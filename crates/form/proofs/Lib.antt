pub mod Cases
pub mod Stores
pub mod InForm
pub mod Shape
pub mod Places
pub mod InForming
pub mod AtFirst
pub mod Outcomes

pub mod Stores
pub mod NetForms
pub mod Kept
pub mod Wholes
pub mod Turns
pub mod Searching
pub mod Outcomes
pub mod Cases

pub mod Choices
pub mod Ones
pub mod Below
pub mod Lists
pub mod Refusals
pub mod Outcomes
pub mod KindBytes
pub mod Made

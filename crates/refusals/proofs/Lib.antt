pub mod Passing
pub mod Refusing
pub mod Outcomes

pub mod Choice
pub mod Below
pub mod Refusal
pub mod Outcome
pub mod Kinds

pub mod Shown
pub mod Noted
pub mod Tried
pub mod Acts

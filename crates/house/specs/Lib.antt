pub mod Places
pub mod NetForm
pub mod Search
pub mod Whole

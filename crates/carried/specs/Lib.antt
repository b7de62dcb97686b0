pub mod Panels
pub mod Laid

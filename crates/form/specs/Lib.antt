pub mod Setting
pub mod Form
pub mod Asked
pub mod Shape

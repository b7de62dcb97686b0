pub mod Rules
pub mod Look
pub mod Events
pub mod Asked

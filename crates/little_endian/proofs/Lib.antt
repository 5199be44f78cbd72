pub mod Little
pub mod Parts

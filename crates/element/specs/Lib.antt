pub mod Kinds
pub mod Sounds
pub mod Marks
pub mod Cells
pub mod Payload
pub mod Stamps
pub mod Samples

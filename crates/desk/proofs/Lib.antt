pub mod Readings
pub mod Scripts

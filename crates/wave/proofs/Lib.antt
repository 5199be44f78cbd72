pub mod Samples
pub mod Files

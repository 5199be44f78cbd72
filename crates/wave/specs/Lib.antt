pub mod Export
pub mod Reading

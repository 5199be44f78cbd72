pub mod Crc
pub mod Table
pub mod Window
pub mod Layout

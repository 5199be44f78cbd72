pub mod Ascii
pub mod Completeness
pub mod Numerals
pub mod Readings
pub mod Soundness

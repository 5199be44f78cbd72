pub mod Packed
pub mod Unpacks
pub mod Tested

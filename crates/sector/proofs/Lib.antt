pub mod Table
pub mod Linear
pub mod Slices
pub mod Words
pub mod Window
pub mod Loops
pub mod Records

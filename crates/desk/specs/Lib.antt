pub mod Answers
pub mod Text
pub mod Desks
pub mod Lines
pub mod Scripts

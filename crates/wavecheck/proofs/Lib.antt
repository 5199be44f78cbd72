pub mod Beginnings
pub mod Runs
pub mod Texts

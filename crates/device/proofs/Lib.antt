pub mod Lists
pub mod Steps
pub mod Cuts
pub mod Named

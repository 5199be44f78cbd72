pub mod Contents
pub mod Plains
pub mod Waits
pub mod Settles
pub mod Chooses

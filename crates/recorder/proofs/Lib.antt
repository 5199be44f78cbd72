pub mod Follows
pub mod Decides
pub mod Packs
pub mod Devices
pub mod Search
pub mod Plays
pub mod Blanks
pub mod Exports

pub mod Entries
pub mod Takes
pub mod Table
pub mod Tracks
pub mod Painting
pub mod Steps
pub mod Claims

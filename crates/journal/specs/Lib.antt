pub mod Headers
pub mod Log
pub mod Rows
pub mod Sessions
pub mod Payloads
pub mod Painting
pub mod Shown
pub mod Examples

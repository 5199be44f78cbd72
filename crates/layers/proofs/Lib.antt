pub mod Counters
pub mod Eithers
pub mod Mirrors

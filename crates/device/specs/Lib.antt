pub mod Faults
pub mod Meaning
pub mod Calls
pub mod Cuts
pub mod Piles

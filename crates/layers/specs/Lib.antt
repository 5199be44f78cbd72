pub mod Fused
pub mod FusedLawful
pub mod Mirrored
pub mod MirroredLawful
pub mod Named
pub mod Sides
pub mod WholeCuts

pub mod Vectors
pub mod Places
pub mod Lines
pub mod Cuts
pub mod Sizes

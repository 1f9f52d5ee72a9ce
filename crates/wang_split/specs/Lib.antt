pub mod Taking
pub mod Halts
pub mod Expanded

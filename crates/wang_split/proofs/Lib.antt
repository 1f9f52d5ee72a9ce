pub mod Turns
pub mod Concluded
pub mod Recorded

pub mod Turns
pub mod Dividing

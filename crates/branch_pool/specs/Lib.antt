pub mod Deques
pub mod Steps
pub mod Views
pub mod Children
pub mod Halves

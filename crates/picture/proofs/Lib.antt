pub mod Sketches
pub mod Lines
pub mod Sounding
pub mod Steps

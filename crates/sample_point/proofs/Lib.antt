pub mod Terms
pub mod Tried
pub mod Branch
pub mod Shown
pub mod Worked

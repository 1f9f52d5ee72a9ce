pub mod Numbers
pub mod Kept
pub mod Meaning
pub mod Limits
pub mod Forming
pub mod Concluding
pub mod Worked

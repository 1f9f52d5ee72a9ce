pub mod Acts
mod Worked

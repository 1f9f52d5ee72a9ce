pub mod Logs
pub mod Whole
pub mod Ready
pub mod Branches
pub mod Turns
pub mod Rooms

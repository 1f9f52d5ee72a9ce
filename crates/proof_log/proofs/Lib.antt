pub mod Bytes
pub mod OneLog
pub mod Fields
pub mod OneLine
pub mod OneText
pub mod ShortTerms
pub mod Short
pub mod Written
pub mod Whole
pub mod Owned
mod Items
mod Cutting
mod Spelled
mod Plain
mod Rows
mod Worded
mod Fronts
mod Steps
mod Completed
mod Runs
pub mod Logs
pub mod Held
pub mod Settled
mod Pieced

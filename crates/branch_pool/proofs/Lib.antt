pub mod Keeps
pub mod Rows
pub mod Stacks

pub mod Reducing
pub mod Paying
pub mod Descending

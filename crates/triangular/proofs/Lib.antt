pub mod Counted
pub mod Reducing
pub mod Chained
pub mod Beside

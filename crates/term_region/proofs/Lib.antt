pub mod Sums
pub mod Lists
pub mod Orders
pub mod Settling

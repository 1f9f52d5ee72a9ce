pub mod Owned
pub mod Standing
pub mod Searches
pub mod Dues
pub mod Taking
pub mod Splitting
pub mod Copies
pub mod Numbered

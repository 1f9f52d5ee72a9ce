pub mod Due
pub mod Growth
pub mod Costs
pub mod Ranges

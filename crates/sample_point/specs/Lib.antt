pub mod Value
pub mod Sampling
pub mod Seen
pub mod Generic
pub mod Holding

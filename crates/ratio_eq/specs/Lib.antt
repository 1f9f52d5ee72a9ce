pub mod Vectors
pub mod Fractions
pub mod Bounded
pub mod Laws
pub mod Outcomes
pub mod Forming

pub mod Polynomials
pub mod Assured

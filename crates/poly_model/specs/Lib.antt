-- definitions
pub mod Domain
pub mod Polynomial
pub mod Content
pub mod Zeros
pub mod Standard
pub mod Reduction
pub mod Bounded
pub mod Division
pub mod Powers
pub mod Reasons
pub mod Names
-- what the ghost members of the types cite of laws: a type may cite its own crate's specs alone
pub mod Held
pub mod Equality
pub mod Ring
pub mod Values
pub mod Solve
pub mod Integers
pub mod Gaussian

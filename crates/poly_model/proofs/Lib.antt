-- the order of monomials, sums of entries, and the ring of polynomials
pub mod Order
pub mod Adding
pub mod Sums
pub mod Ordered
pub mod Merge
pub mod Multiple
-- contents, constants and parts
pub mod Contents
pub mod Primitive
pub mod Scaled
pub mod Parts
pub mod Classes
pub mod Front
pub mod Constants
pub mod Over
-- what bounded arithmetic gives
pub mod Rows
pub mod Within
pub mod Reductions
pub mod Standards
pub mod Division
pub mod Powers
pub mod PowersWithin
-- how values are held
pub mod Places
pub mod Same
pub mod Standing
-- small cases of the definitions
pub mod Worked

-- the draws from a number, the file that they make, and that it is accepted
pub mod Draws
pub mod Trial
pub mod Accepted

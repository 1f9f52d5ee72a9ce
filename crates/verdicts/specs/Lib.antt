pub mod Verdicts
pub mod Tallies
pub mod Claims

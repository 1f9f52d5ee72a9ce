pub mod Causes
pub mod Dues
pub mod Table
pub mod Found
pub mod Checks
pub mod Decided
pub mod Outcomes
pub mod Runs
pub mod Single
pub mod VerdictLines
pub mod Words
mod FileLogs
mod Assured
mod Figures
pub mod CarryingFacts
mod CarriedFigures
mod Headline
pub mod Trials
pub mod Counts

-- what a store holds, what calls do to it, and why it has no room
pub mod States
pub mod Changes
pub mod Faults
-- how a growing store holds it
pub mod Runs
pub mod Holding

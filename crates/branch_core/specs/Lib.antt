pub mod Trees
pub mod Machine
pub mod Told
pub mod Room
pub mod Runs

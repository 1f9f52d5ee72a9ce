-- runs in one pool, and the state of a region
pub mod Pool
pub mod Holding

pub mod Maps
pub mod Places
pub mod Seating
pub mod Making

pub mod Capped
pub mod Again
pub mod Places

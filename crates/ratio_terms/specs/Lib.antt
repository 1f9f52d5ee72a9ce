pub mod Terms
pub mod Taking

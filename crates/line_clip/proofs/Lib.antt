pub mod Falling
pub mod Turning
pub mod Near
pub mod Alike

pub mod Placing
pub mod Images
pub mod Laws
pub mod Carrying

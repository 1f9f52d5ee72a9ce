pub mod Summed
pub mod Pieces
pub mod Held
pub mod Keys
pub mod Sizes

mod Pieces
mod Under
pub mod Whole

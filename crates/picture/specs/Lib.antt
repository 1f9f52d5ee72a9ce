pub mod Shapes
pub mod Pieces
pub mod Drawing
pub mod Drawable
pub mod OneProof

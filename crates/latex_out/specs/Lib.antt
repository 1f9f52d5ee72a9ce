pub mod Dashes
pub mod Sides
pub mod Latex

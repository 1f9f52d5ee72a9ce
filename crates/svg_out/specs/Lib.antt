pub mod Sides
pub mod Svg

-- figures
pub mod Vectors
pub mod Curves
pub mod Ratio
pub mod Rows
pub mod Figure
pub mod Layout
-- problems
pub mod Equations
pub mod Problem
pub mod System
pub mod Laws
-- how the code holds them
pub mod Small
pub mod Terms
pub mod Formulas
pub mod Shape
pub mod Formed

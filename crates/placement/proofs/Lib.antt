pub mod Turned
pub mod Rows
pub mod Figures
pub mod Layouts
pub mod Placed
pub mod Flat
pub mod Sizes
pub mod Counting
pub mod Before
pub mod ClaimsCarried
mod Worked

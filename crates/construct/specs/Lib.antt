pub mod Formulas
pub mod Constructed
pub mod Made
pub mod Placing
pub mod Spots

pub mod Laid
pub mod Cuts

pub mod Finding
pub mod Growth
pub mod Reading
pub mod Writing
pub mod Going

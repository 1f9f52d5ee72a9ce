pub mod Causes
pub mod Characters
pub mod Files
pub mod Bytes
pub mod Memory

pub mod Preorder
pub mod Taking

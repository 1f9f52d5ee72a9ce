pub mod Looks
pub mod Spelling
pub mod Scopes
pub mod Steps
pub mod Layouts
pub mod Accepting

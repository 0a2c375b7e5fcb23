pub mod Settings
pub mod Statements

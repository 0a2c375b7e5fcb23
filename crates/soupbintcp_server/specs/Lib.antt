pub mod Server
pub mod HandedUp
pub mod Examples
pub mod Statements

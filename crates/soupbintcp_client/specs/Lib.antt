pub mod Client
pub mod HandedUp
pub mod Examples
pub mod Statements

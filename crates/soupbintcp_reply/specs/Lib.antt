pub mod Reply
pub mod Statements

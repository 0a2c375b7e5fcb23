pub mod Answers
pub mod Early
pub mod Read
pub mod Statements
pub mod Steps
pub mod Settled

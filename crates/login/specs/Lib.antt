pub mod Account
pub mod Table
pub mod Decision
pub mod Statements
pub mod Examples
pub mod Locks
pub mod Promises

pub mod Table
pub mod Receiver
pub mod Statements
pub mod Delivery
pub mod Condition3
pub mod Calls
pub mod Witnesses

pub mod Session
pub mod Machine
pub mod Faithful

pub mod Letters
pub mod Session
pub mod Number
pub mod Sound

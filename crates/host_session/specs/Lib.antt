pub mod Session
pub mod Replies
pub mod Run

pub mod Receiver
pub mod Replies

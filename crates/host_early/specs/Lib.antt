pub mod Early
pub mod Replies
pub mod Slots
pub mod Walk

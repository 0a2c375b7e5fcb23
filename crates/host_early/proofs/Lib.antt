pub mod EarlyLaws
pub mod WalkLaws
pub mod ReplyLaws
pub mod Rules

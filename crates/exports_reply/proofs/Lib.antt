pub mod ReplyLaws
pub mod CallLaws
pub mod RunLaws
pub mod Rules

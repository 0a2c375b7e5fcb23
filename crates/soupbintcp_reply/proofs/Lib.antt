pub mod ReplyLaws
pub mod ExampleLaws
pub mod StatementLaws
pub mod Rules

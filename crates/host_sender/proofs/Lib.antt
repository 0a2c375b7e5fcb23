pub mod SenderLaws
pub mod Rules

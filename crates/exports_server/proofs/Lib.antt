pub mod ServerLaws
pub mod Rules

pub mod ClientLaws
pub mod Rules

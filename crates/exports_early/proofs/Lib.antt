pub mod TakeLaws
pub mod RunLaws
pub mod Rules

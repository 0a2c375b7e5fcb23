pub mod TakeLaws
pub mod OverLaws
pub mod Rules

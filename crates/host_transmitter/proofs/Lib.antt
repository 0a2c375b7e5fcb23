pub mod ProgressLaws
pub mod Rules

pub mod ServerLaws
pub mod StepLaws
pub mod Rules

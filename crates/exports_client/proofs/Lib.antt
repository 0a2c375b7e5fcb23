pub mod StepLaws
pub mod ClientLaws
pub mod Rules

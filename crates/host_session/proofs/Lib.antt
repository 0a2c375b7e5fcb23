pub mod SessionLaws
pub mod ReplyLaws
pub mod StepLaws
pub mod HandsLaws
pub mod GroundLaws
pub mod FrontLaws
pub mod Rules

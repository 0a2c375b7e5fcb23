pub mod AnswerLaws
pub mod TagLaws
pub mod PacketLaws
pub mod FrontCases
pub mod StepLaws
pub mod RunLaws
pub mod Rules

pub mod AnswerLaws
pub mod WritingLaws
pub mod PromiseLaws
pub mod LadderLaws
pub mod OnlyLaws
pub mod Rules

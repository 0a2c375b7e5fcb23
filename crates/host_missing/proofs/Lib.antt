pub mod ReadingLaws
pub mod Rules

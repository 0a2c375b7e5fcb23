pub mod ReadLaws
pub mod TurningLaws
pub mod FoldLaws
pub mod WholeLaws
pub mod Rules

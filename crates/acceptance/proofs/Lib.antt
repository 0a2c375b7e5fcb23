pub mod Same
pub mod ExampleLaws
pub mod LayoutLaws
pub mod OrderLaws
pub mod StateLaws
pub mod ConditionLaws

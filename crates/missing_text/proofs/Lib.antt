pub mod RangeLaws
pub mod TextLaws
pub mod Rules

pub mod SpellLaws
pub mod DigitLaws
pub mod Rules

pub mod WordLaws
pub mod MessageLaws
pub mod NameLaws
pub mod RefusalLaws
pub mod Rules

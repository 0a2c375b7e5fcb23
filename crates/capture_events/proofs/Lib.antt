pub mod EventLaws
pub mod TurnLaws
pub mod NextLaws
pub mod Rules

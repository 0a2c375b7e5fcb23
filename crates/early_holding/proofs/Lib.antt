pub mod HoldingLaws
pub mod Rules

pub mod WriteLaws
pub mod BackLaws
pub mod AgainLaws
pub mod RoundTripLaws
pub mod Rules

pub mod HeaderLaws
pub mod BlockLaws
pub mod DownstreamLaws
pub mod RequestLaws
pub mod Rules

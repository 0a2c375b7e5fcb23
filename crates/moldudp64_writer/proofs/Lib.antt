pub mod LengthLaws
pub mod HeaderLaws
pub mod CutLaws
pub mod WriterLaws
pub mod LayingLaws
pub mod RoundTripLaws
pub mod Rules

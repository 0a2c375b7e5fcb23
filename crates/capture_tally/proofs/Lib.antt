pub mod TallyLaws
pub mod ReportLaws
pub mod SumLaws
pub mod Rules

pub mod ScanLaws
pub mod Rules

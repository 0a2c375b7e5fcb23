pub mod AccountsLaws
pub mod ScanLaws
pub mod Rules

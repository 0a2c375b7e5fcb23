pub mod Letters
pub mod Head
pub mod Fields
pub mod Front
pub mod Scan

pub mod Header
pub mod Blocks
pub mod Downstream
pub mod Written
pub mod Request

pub mod Answer
pub mod Stream
pub mod Examples
pub mod Statements

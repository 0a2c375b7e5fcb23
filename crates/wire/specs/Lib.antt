pub mod Refusals
pub mod Text
pub mod Bounds
pub mod Words
pub mod Bytes
pub mod Parts
pub mod Output

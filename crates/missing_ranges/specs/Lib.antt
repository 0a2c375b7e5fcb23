pub mod Edges
pub mod Notes
pub mod Listing
pub mod Meaning
pub mod Promises

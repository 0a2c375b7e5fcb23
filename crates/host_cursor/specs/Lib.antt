pub mod Cursor
pub mod Calls

pub mod States
pub mod Layouts
pub mod Conditions
pub mod Orders
pub mod Examples

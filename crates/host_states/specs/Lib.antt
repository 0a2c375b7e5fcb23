pub mod Little
pub mod States

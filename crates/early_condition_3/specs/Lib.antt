pub mod Start
pub mod Condition3
pub mod Rule
pub mod Asks
pub mod Plain
pub mod Swapped
pub mod Witnesses

pub mod Cutting
pub mod Transmitter
pub mod Turns
pub mod Walk
pub mod Statements
pub mod Witness

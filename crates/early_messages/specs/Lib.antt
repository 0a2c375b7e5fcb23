pub mod Delivery
pub mod Walk

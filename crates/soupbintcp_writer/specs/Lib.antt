pub mod Packets
pub mod RoundTrips

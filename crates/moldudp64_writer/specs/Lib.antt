pub mod Writer
pub mod RoundTrips

pub mod Standard
pub mod RoundTrip

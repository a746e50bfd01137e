pub mod Writer
pub mod RoundTrip
pub mod Watch
pub mod Master

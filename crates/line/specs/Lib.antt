pub mod Distances
pub mod Ranges
pub mod Codes
pub mod Line
pub mod Case
pub mod Fits
pub mod Verdict

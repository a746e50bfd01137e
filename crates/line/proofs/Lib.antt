pub mod Laws
pub mod Ranges
pub mod Cases
pub mod CaseLaws
pub mod Fits
pub mod Verdict
pub mod Examples

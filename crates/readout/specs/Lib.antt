pub mod Readout
pub mod Promises

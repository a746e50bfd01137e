pub mod Trial
pub mod Ticking
pub mod Promises
pub mod Witness

pub mod Values
pub mod Read
mod Reader
mod Unique
pub mod Trip
mod Examples

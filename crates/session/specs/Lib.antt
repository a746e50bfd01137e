pub mod Asked
pub mod Ticks
pub mod Text
pub mod Kept
pub mod Session
pub mod Lines
pub mod Stretch

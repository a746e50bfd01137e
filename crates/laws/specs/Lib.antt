pub mod Axes
pub mod Bits

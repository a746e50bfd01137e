pub mod Blocks
pub mod Buffers
pub mod Places
pub mod Named
mod Loop

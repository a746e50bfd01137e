pub mod Digest
pub mod Replay

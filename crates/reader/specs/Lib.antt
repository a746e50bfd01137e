pub mod Reader
pub mod Blocks
pub mod ReadBack

pub mod Figures
pub mod Replies
pub mod BlockLaws
pub mod Examples

pub mod ReplyLaws
pub mod Lengths
pub mod Promises

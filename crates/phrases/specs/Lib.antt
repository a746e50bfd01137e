pub mod Meanings
pub mod Phrases
pub mod Promises

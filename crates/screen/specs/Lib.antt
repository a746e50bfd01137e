pub mod Answer
pub mod Asked
pub mod Page
pub mod Promises
pub mod Screen

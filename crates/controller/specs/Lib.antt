pub mod Held
pub mod Reach
pub mod Answers
pub mod Journal
pub mod Carry
pub mod Settle
pub mod Identified
pub mod Inner

pub mod Numbers
pub mod Entries
pub mod Journal
pub mod Inner
pub mod Examples

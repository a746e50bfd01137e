pub mod Parts
pub mod Words
pub mod Small
pub mod Examples

pub mod Decimal
pub mod Parts
pub mod Text

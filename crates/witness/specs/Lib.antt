pub mod Witness
pub mod Entries
pub mod Blocks
pub mod Carried
pub mod Identified

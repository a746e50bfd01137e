pub mod DecimalLaws
pub mod LengthLaws
pub mod PartLaws
pub mod TextLaws

pub mod PlaceLaws
pub mod TableLaws
pub mod NearestLaws
pub mod Lengths

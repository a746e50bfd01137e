mod AskedLaws
mod BlockLaws
mod SumLaws
mod DecimalLaws
mod TextLaws
mod KeptLaws
mod PrintLaws
mod PartLaws
mod PlaceLaws
pub mod SessionLaws
mod OpeningLaws
mod SettledLaws
pub mod PrintedLaws
mod LineLaws
pub mod AfterLaws
pub mod StretchLaws
mod GatheredLaws

pub mod WitnessLaws
pub mod EntryWitnessLaws
pub mod BlockWitnessLaws
pub mod CarriedLaws
pub mod IdentifiedWitnessLaws

pub mod TellsLaws
pub mod Laws
pub mod Six
pub mod CharacterLaws

pub mod Laws
pub mod KeepLaws

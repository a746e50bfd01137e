pub mod Pick
pub mod Five
pub mod BitLaws
pub mod Some
pub mod Tests
pub mod Directed
pub mod Signs

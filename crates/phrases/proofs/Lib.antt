pub mod FirstWordLaws
pub mod NoCommandLaws
pub mod PhraseLaws
pub mod SameLineLaws
pub mod SpelledLaws
pub mod TickLineLaws
pub mod TrialLineLaws

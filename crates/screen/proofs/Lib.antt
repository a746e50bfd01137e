pub mod AnswerLaws
pub mod PageLaws
pub mod ShareLaws
pub mod WholeLaws

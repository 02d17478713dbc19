pub mod AnswerLines
pub mod AnswerLaws

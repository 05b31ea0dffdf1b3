pub mod Sources
pub mod Answers
pub mod AnswersLaws
pub mod FitLaws

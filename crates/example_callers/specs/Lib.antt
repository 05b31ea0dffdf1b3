pub mod Answers
pub mod Welcome

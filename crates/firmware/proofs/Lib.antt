-- Laws of the answer.
pub mod Answers

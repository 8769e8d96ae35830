-- Laws of the text of a plan.
pub mod Growing
pub mod Answers
pub mod Longest
pub mod Examples

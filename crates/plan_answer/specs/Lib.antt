-- The definitions that the contracts of `plan_answer` cite.
pub mod Answer

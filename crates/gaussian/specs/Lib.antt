-- The definitions that the contracts of `gaussian` cite.
pub mod Elimination
pub mod Answers
pub mod Asked
pub mod Marginals
pub mod Told

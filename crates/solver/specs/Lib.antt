-- The definitions that the contracts of `solver` cite.
pub mod Plan
pub mod Run
pub mod Stages
pub mod Told

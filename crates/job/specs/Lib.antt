-- The definitions that the contracts of `job` cite.
pub mod Job
pub mod Lent

-- The definitions that the contracts of `measured` cite.
pub mod Measured

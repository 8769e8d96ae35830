-- The definitions that the contracts of `marginals` cite.
pub mod Marginals
pub mod Asked

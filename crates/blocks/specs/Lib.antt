-- The definitions that the contracts of `blocks` cite.
pub mod Blocks
pub mod Reader

-- The definitions that the contracts of `text` cite.
pub mod Decimals
pub mod Putting

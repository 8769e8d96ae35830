-- The definitions that the contracts of `tables` cite.
pub mod Originals
pub mod Heads

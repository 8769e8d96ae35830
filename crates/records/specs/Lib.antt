-- The definitions that the contracts of `records` cite.
pub mod Bytes
pub mod Records
pub mod Told

-- The definitions that the contracts of `direct` cite.
pub mod Direct
pub mod Between
pub mod Told

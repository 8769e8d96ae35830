-- The definitions that the contracts of `graph` cite.
pub mod Refusals
pub mod Record
pub mod Registration
pub mod Reached
pub mod Told
pub mod Moments

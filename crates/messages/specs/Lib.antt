-- The definitions that the contracts of `messages` cite.
pub mod Values
pub mod Figure
pub mod Tables
pub mod Asked
pub mod Told

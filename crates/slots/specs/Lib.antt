-- The definitions that the contracts of `slots` cite.
pub mod Limits
pub mod Layouts
pub mod Views
pub mod Tables
pub mod Fitting

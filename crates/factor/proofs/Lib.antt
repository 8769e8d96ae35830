-- Laws that several proofs cite.
pub mod Counting
pub mod Chains
pub mod Laying
pub mod Blocks
pub mod Storing
pub mod Fitting
pub mod KeyOrder
pub mod Lookups
pub mod Examples
pub mod Telling
pub mod Symmetry

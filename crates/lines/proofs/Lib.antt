-- Laws that several proofs cite.
pub mod Laying
pub mod Texts
pub mod Longest
pub mod Examples

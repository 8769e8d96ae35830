-- Laws that several proofs cite.
pub mod Verdicts
pub mod Asking
pub mod Sending
pub mod Telling
pub mod Examples

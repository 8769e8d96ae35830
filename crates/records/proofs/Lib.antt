-- Laws that several proofs cite.
pub mod Listing
pub mod Counts
pub mod Flags
pub mod Requests
pub mod Agreement
pub mod Asking
pub mod Superseding
pub mod Reading
pub mod Progress
pub mod StoreLength
pub mod Prefix
pub mod Computing
pub mod Examples

-- Laws that several proofs cite.
pub mod Heads
pub mod Filling
pub mod OriginalsRead
pub mod Dimensions

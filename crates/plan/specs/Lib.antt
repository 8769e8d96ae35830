-- What the arrays of the code mean, in the terms of the crate `schedule`.
pub mod Limits
pub mod Mask
pub mod Pass
pub mod Gather
pub mod Plan
pub mod Factors

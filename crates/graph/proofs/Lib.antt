-- Laws that several proofs cite.
pub mod Checking
pub mod Triangles
pub mod CheckOrder
pub mod Calls
pub mod Places
pub mod Validity
pub mod Factors
pub mod Keeping
pub mod Filling
pub mod Passing
pub mod Exactness
pub mod Telling
pub mod Numbers
pub mod Moments
pub mod Computing
pub mod Examples

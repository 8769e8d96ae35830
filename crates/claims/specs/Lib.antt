-- What is claimed of the whole.
pub mod Demand3
pub mod Orders
pub mod Retired
pub mod Late
pub mod Pairs

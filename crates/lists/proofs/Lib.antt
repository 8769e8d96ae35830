-- Laws of the lists.
pub mod Writing
pub mod Holding

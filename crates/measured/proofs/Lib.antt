-- Laws of what is measured.
pub mod Runs
pub mod Ordered

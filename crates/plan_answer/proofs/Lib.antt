-- Laws of the answer of a plan, and what the definitions give on an example.
pub mod Filling
pub mod Members
pub mod Copies
pub mod Examples

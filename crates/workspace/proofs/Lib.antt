-- Laws of the work store.
pub mod Parts
pub mod Cuts
pub mod InPlace

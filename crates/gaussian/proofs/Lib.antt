-- Laws of the elimination, and computed cases.
pub mod Beginning
pub mod Ending
pub mod Sending
pub mod Branches
pub mod Heads
pub mod Enough
pub mod Listing
pub mod Lengths
pub mod Outcomes
pub mod Moments
pub mod Telling
pub mod Computing
pub mod Cases
pub mod Random

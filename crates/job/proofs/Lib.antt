-- Laws of the text of a job.
pub mod Endings
pub mod Refusals
pub mod Longest
pub mod Telling

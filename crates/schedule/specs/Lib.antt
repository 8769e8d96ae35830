-- The definitions of the schedule; `Messages` is inner.
pub mod Count
pub mod Pass
pub mod Gather
pub mod Plan
pub mod Once
pub mod Late
pub mod Messages

-- The definitions that the contracts of `plan_text` cite.
pub mod Text
pub mod Shown
pub mod Lent

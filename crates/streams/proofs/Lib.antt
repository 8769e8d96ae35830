-- The laws of `streams`.
pub mod Unless

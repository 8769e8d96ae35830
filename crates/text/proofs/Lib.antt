-- Laws of text in a lent buffer.
pub mod Putting
pub mod Decimals

-- Laws of the reader.
pub mod InTurn

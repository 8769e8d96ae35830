-- Laws that several proofs cite.
pub mod Turns
pub mod Entries
pub mod Agreement
pub mod Dense
pub mod Diagonal
pub mod Numbers

-- Laws of the factorisation and of the solves.
pub mod Tolerance
pub mod Turns
pub mod Equations
pub mod LowerOnly
pub mod Diagonal
pub mod Identity
pub mod FiniteSolve
pub mod Forms
pub mod Computing
pub mod OneList

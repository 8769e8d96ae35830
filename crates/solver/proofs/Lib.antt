-- Laws of the plan of a graph.
pub mod Tables
pub mod Answers
pub mod GraphOnce
pub mod Carriable
pub mod Stages
pub mod Cases
pub mod Rising
pub mod Refused
pub mod Figures
pub mod Telling
pub mod StoreLengths

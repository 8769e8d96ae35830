-- Laws of the schedule, from counts up to demand 3, and what the definitions give on examples.
pub mod Counts
pub mod Sums
pub mod Walks
pub mod Meanings
pub mod Steps
pub mod Trees
pub mod Runs
pub mod Orders
pub mod Sides
pub mod Demand3
pub mod Messages
pub mod Beside
pub mod Late
pub mod Examples
pub mod Random

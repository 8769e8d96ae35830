-- Laws of the marginals.
pub mod Lengths
pub mod Findings
pub mod KeyByKey
pub mod Rooms
pub mod Gathering
pub mod Searching
pub mod Telling
pub mod Components

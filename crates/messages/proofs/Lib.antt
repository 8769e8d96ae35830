-- Laws of the messages.
pub mod Rows
pub mod Members
pub mod Slots
pub mod Placing
pub mod Reading
pub mod Carrying
pub mod Telling
pub mod Listed

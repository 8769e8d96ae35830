-- Laws of what the slots add.
pub mod LayoutTables
pub mod Adding
pub mod OneFactor
pub mod Reading

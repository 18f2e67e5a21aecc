pub mod Blocks
pub mod Reading
pub mod Path
pub mod Laws
pub mod WorkedReads

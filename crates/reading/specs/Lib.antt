pub mod Rows
pub mod Blocks
pub mod Walk

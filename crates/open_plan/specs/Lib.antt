pub mod Additions
pub mod Open

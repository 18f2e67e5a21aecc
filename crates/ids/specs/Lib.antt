pub mod Checks
pub mod Written
pub mod IdTypes
pub mod Decoded
pub mod Tiny

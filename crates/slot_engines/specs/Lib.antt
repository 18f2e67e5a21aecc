pub mod Engines
pub mod Way

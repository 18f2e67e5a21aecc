pub mod OneMore
pub mod Planned

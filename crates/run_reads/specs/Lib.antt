pub mod Head
pub mod Cases
pub mod Recorded
pub mod Answered

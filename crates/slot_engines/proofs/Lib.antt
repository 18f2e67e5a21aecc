pub mod Agreeing
pub mod Entering
pub mod Leading

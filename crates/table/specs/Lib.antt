pub mod Table
pub mod Slots
pub mod Sizes
pub mod Capacity

pub mod Saturating
pub mod Log2
pub mod Sums
pub mod Bytes

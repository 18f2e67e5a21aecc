pub mod Geometry
pub mod HeapOrder
pub mod Blocks
pub mod Search
pub mod Counting
pub mod Laws

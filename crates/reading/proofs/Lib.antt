pub mod RowSizes
pub mod Scanning
pub mod Walking

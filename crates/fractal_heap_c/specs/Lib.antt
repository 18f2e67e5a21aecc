pub mod InSlot
pub mod WrittenIds
pub mod Opened
pub mod Parsed
pub mod WrittenHeaders

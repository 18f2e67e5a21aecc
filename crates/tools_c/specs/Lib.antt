pub mod Reports
pub mod MixTools
pub mod StoreTools
pub mod WriteTools
pub mod Lists
pub mod ObjectNumbers
pub mod ObjectTools
pub mod SlotTools

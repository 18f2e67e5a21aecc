pub mod Ids
pub mod Decoding
pub mod ReadBack
pub mod Padding

pub mod Mask
pub mod Text

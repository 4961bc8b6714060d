pub mod Format
pub mod Bytes
pub mod Text
pub mod View

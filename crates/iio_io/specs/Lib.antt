pub mod Bytes
pub mod Memory
pub mod MemEnds
pub mod Outside

pub mod Reads
pub mod Link
pub mod Remasking

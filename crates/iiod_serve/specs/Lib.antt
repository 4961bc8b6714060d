pub mod Usage
pub mod Words
pub mod Reading
pub mod Served

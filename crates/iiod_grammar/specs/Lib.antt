pub mod Command
pub mod Lines
pub mod Marks
pub mod Parts
pub mod Scans
pub mod Stream
pub mod Taking
pub mod View

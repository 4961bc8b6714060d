pub mod Code
pub mod Monitor

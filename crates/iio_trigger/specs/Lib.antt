pub mod Rank
pub mod Trigger

pub mod Changes
pub mod Ranks

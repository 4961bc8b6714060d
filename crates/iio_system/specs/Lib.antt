pub mod Step
pub mod System
pub mod Connections
pub mod Standing
pub mod Moves
pub mod Tally

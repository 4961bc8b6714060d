mod Rows
mod Biases
mod HeldLemmas
pub mod StampLemmas

mod Numbers
mod NumberBytes
pub mod Elements
mod Texts

pub mod Id
pub mod Shape
pub mod Layout
pub mod Scan
pub mod Active
pub mod Rows
pub mod Laws
pub mod View

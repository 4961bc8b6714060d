pub mod Attributes
pub mod Name
pub mod Table

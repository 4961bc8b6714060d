pub mod Generator
pub mod Input
pub mod Law
pub mod Summary

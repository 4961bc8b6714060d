pub mod Window
pub mod Means
pub mod Values
pub mod ReadBack
pub mod Members
pub mod Sized
pub mod Average
pub mod View

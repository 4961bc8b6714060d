pub mod Written
pub mod Last
pub mod Out
pub mod Playback
pub mod View

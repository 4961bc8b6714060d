pub mod Words
pub mod ReadStatus
pub mod Wanted
pub mod Reading
pub mod Counts
pub mod Exit

pub mod Scans
pub mod WriterLemmas
pub mod LastLemmas
pub mod PlaybackLemmas

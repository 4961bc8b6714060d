pub mod CopyLemmas
pub mod EntryLemmas
pub mod MergeLemmas
pub mod RestLemmas
pub mod ScanLemmas
mod Worked

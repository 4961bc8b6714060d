mod CutLemmas
mod Rows
mod ScanLemmas
mod StreamLaws
mod TargetLemmas
pub mod BlankLemmas
pub mod MarkLemmas

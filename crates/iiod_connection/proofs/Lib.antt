pub mod TalkLaws
pub mod LinkLaws
pub mod Whole
pub mod PartLaws

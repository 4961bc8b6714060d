pub mod Texts
pub mod Several
pub mod FeedLemmas
pub mod DescriptionLaws
pub mod StepLaws
pub mod MadeLaws
pub mod TallyLaws
pub mod SummaryLaws
mod Worked

pub mod SumLemmas
pub mod PlaceLemmas
pub mod ReadLemmas
mod ReadBackLemmas
pub mod MemberLemmas
pub mod MeanLemmas

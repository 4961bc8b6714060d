pub mod PlaceLemmas
pub mod TextLemmas
pub mod ChannelLemmas
pub mod UnionLemmas

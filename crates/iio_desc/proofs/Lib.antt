mod ChannelLemmas
mod DeviceLemmas
pub mod ListLemmas
mod MaskLemmas
mod PositionLemmas
mod ReaderLemmas
mod RefusalLemmas
mod RowLemmas
mod WordLemmas

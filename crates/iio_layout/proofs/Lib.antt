pub mod IdLemmas
pub mod ShapeLemmas
pub mod LayoutLemmas
pub mod ActiveLemmas
pub mod ValueLemmas
pub mod SelectedLemmas
pub mod ScanLemmas
mod Worked

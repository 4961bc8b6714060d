pub mod EndLaws
pub mod GenWords
pub mod SoloWords
pub mod LayoutLaws
pub mod PlacingLaws
mod Worked

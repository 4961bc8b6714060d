pub mod Alone
pub mod SeatLaws
pub mod SiteLaws
pub mod ActLaws
pub mod OwnLaws
pub mod StepLaws
pub mod OthersLaws
pub mod QuietLaws
pub mod TextLaws
pub mod TwoWorldsLaws
pub mod StartLaws
pub mod StanceLaws
pub mod ClientLaws
pub mod SoloLaws
pub mod BothLaws
pub mod KeptLaws
pub mod OwnLinesLaws
mod Rows
mod SoloRows

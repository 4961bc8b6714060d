pub mod BothLaws
pub mod SoloEnds

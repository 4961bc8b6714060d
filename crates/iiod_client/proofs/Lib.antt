pub mod Stands
pub mod Heard
pub mod HearingLaws
pub mod PrintedLaws
pub mod ClientLaws
pub mod Machine
pub mod AwaitedLaws
pub mod EndLaws

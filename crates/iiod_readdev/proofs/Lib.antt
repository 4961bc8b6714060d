pub mod WordLaws
pub mod WantedLaws
pub mod ReadLaws
pub mod RunLaws
pub mod DueLaws

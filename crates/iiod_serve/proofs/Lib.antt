pub mod HeadLaws
pub mod ServeLaws
pub mod WordLaws

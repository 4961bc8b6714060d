mod LineLemmas
pub mod CountLemmas
pub mod EscapeLemmas
pub mod FixedLemmas
pub mod HexLemmas
pub mod NumberLemmas
pub mod PrintedLemmas
pub mod RunLemmas
pub mod WordLemmas

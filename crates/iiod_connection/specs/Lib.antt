pub mod Place
pub mod Answers
pub mod SessionEnd
pub mod Parts
pub mod Talks

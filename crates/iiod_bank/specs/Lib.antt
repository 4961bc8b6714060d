pub mod Received
pub mod Kept
pub mod FrontOf
pub mod Told
pub mod Jobs
pub mod TriggerJobs
pub mod Own
pub mod First

pub mod Driver
pub mod Recorded
pub mod Ramp
pub mod Failing
pub mod Held
pub mod View
pub mod Laws

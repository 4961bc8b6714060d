pub mod Offered
pub mod Queue
pub mod Ring
pub mod Offers
pub mod Rule
pub mod Steps
pub mod Ends

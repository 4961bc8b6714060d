pub mod FeedLaws
pub mod GivenLaws
pub mod StreamLaws
pub mod WatchLaws
pub mod TellLaws
pub mod HearLaws

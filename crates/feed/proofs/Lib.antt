pub mod FeedLaws
pub mod Sorts

pub mod CaptureLaws
pub mod FeedLaws
pub mod Rules

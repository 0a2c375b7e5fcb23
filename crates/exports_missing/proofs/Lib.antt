pub mod LentLaws
pub mod NameLaws
pub mod FeedLaws
pub mod ListLaws
pub mod Rules

pub mod PlaceLaws
pub mod LayLaws
pub mod DeliverLaws
pub mod RunLaws
pub mod Rules

pub mod LadderLaws
pub mod ReceiverLaws
pub mod WalkLaws
pub mod RunLaws
pub mod ExampleLaws
pub mod Rules

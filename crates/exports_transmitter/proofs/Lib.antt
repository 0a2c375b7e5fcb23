pub mod RefusalLaws
pub mod CallLaws
pub mod RunLaws
pub mod ExampleLaws
pub mod Rules

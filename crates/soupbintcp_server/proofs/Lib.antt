pub mod ServerLaws
pub mod LoginLaws
pub mod ServerCases
pub mod StableLaws
pub mod OrderLaws
pub mod ExampleLaws
pub mod StatementLaws
pub mod Rules

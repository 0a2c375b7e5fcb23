pub mod CursorLaws
pub mod DatagramLaws
pub mod CallLaws
pub mod Rules

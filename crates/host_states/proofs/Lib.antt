pub mod LittleLaws
pub mod StateLaws
pub mod Rules

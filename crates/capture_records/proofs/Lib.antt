pub mod RecordLaws
pub mod FrontLaws
pub mod BufferLaws
pub mod Rules

pub mod Records
pub mod Buffer

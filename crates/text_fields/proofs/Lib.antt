pub mod FoldLaws
pub mod FieldLaws
pub mod StepLaws
pub mod SoundLaws
pub mod LayLaws
pub mod Rules

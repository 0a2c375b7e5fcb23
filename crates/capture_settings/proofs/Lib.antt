pub mod TextLaws
pub mod LineLaws
pub mod SettingsLaws
pub mod OpenedLaws
pub mod Rules

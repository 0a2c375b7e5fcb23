pub mod CountLaws
pub mod GivesLaws
pub mod PartLaws
pub mod ReachLaws
pub mod Rules
pub mod WalkLaws

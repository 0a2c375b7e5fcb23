pub mod PacketLaws
pub mod NameLaws
pub mod RefusalLaws
pub mod Rules

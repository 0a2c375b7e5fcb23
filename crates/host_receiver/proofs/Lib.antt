pub mod ReceiverLaws
pub mod ReplyLaws
pub mod RefusalLaws
pub mod SaidLaws
pub mod TakenLaws
pub mod Rules

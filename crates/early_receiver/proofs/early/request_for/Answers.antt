-- The smaller of the gap and the limit is asked for.
use native.Mathlib.Omega.{arith}
use Rattle.early_receiver.proofs.AnswerLaws.{ask-is}
use Rattle.early_receiver.proofs.early.request_for.Goals as goal

pub returns : goal.returns
returns c = ask-is _ _ _ _ (grind arith)

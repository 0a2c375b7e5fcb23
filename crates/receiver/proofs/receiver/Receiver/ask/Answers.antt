-- The smaller of the distance and the limit is asked for.
use native.Mathlib.Omega.{arith}
use Rattle.receiver.proofs.TableLaws.{ask-for}
use Rattle.receiver.proofs.Rules.{rows}
use Rattle.receiver.proofs.receiver.Receiver.ask.Goals as goal

pub returns : goal.returns
returns c = ask-for _ _ _ _ (search rows) c.gap.ensures (grind arith)

-- What is left to take is the same at every turn.
use Prim.Native.Nat.{◌-◌}
use lib.ListN.{length}
use Rattle.early_holding.specs.Holding.{lent, early, take_all}
use Rattle.early_receiver.specs.Read.{messages_read}
use Rattle.early_receiver.proofs.KeepingLaws.{Keeping}
use Rattle.early_receiver.proofs.early.keep_to.Given as goal

abbrev pub invariant-loop-end : goal.invariant-loop-end
invariant-loop-end l =
    Keeping
    (take_all (lent (early l.base l.initial.held.0) l.fn.lengths l.fn.slots) l.initial.number.0 (messages_read l.datagram (l.end.0 - l.initial.number.0)))
    l.datagram l.end.0 (length l.fn.lengths) (length l.fn.slots) (early l.base l.held.0) l.lengths l.slots l.cursor l.number.0

abbrev pub decreases-loop-end : goal.decreases-loop-end
decreases-loop-end l = l.end.0 - l.number.0

-- What is still to be laid from any message on makes the whole.
use Prim.Native.Nat.{◌-◌}
use Rattle.early_holding.specs.Holding.{lent}
use Rattle.exports_early_deliver.proofs.LayLaws.{Laying}
use Rattle.exports_early_deliver.proofs.lay_places.Given as goal

abbrev pub invariant-loop : goal.invariant-loop
invariant-loop l =
    Laying (lent l.fn.receiver l.lengths l.slots) l.datagram l.initial.places l.places l.here (l.fn.start.left.0 - l.counter) l.word

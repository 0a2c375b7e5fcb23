-- What is still to be laid from any block on makes the whole.
use Prim.Native.Nat.{◌-◌, ◌*◌}
use Rattle.exports_deliver.proofs.LayLaws.{Laying}
use Rattle.exports_deliver.proofs.lay_places.Given as goal

abbrev pub invariant-loop-index : goal.invariant-loop-index
invariant-loop-index l = Laying l.datagram l.fn.places l.fn.from l.fn.count l.places l.at (l.fn.count - l.index) (2 * l.index)

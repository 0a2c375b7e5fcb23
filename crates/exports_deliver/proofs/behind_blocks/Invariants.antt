-- What is left behind the blocks from any of them on is what is left behind all.
use Prim.Native.Nat.{◌-◌}
use Rattle.exports_deliver.proofs.LayLaws.{Passing}
use Rattle.exports_deliver.proofs.behind_blocks.Given as goal

abbrev pub invariant-loop : goal.invariant-loop
invariant-loop l = Passing l.datagram l.fn.blocks l.at (l.fn.blocks - l.counter)

-- No ground applies to the run, so it is the packet of the turn that comes there.
use mathlib.Core.Path.{refl}
use Rattle.wire.proofs.Refusing.{checked}
use Rattle.transmitter.proofs.WalkLaws.{place-written}
use Rattle.transmitter.proofs.place.write.Goals as goal

pub returns-clause-writes : goal.returns-clause-writes
returns-clause-writes c =
    place-written _ _ _ _ _ _ refl (checked _ _ _ c.check.ensures c.in_ok-check.was) _ _ c.room.ensures c.reach-at.ensures _ _ _ _ c.next.ensures.0

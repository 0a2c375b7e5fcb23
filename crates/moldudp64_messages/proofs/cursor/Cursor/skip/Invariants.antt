-- The moves that are left lead where all of them lead; a cursor that stays is there already.
use Prim.Native.Nat.{◌-◌}
use Rattle.moldudp64_messages.specs.Cursor.{cursor, advanced_by}
use Rattle.moldudp64_messages.proofs.CursorLaws.{Skipping}
use Rattle.moldudp64_messages.proofs.cursor.Cursor.skip.Given as goal

abbrev pub invariant-loop : goal.invariant-loop
invariant-loop l =
    Skipping l.datagram (advanced_by l.end l.datagram (cursor l.fn.self.at.0 l.fn.self.left.0)) l.rest l.left.0 (l.end - l.counter)

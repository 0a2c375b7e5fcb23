-- Each way out of the loop is a law about the front of what is left; the inner loops only carry their own fold.
use Rattle.std.proofs.Common.{◌≡◌, ◌≤◌, drop, length}
use Rattle.text_fields.specs.declared.session.SessionState.TheVariants.{Blank}
use Rattle.text_fields.specs.declared.number.NumberState.TheVariants as counting
use Rattle.text_fields.specs.Session.{session_from}
use Rattle.text_fields.specs.Number.{number_from}
use Rattle.soupbintcp.proofs.ScanLaws.{Going}
use Rattle.soupbintcp.proofs.scan.scan.Given as goal

abbrev pub invariant-loop-b : goal.invariant-loop-b
invariant-loop-b l = (l.b-index ≤ length l.name) × (session_from l.named (drop l.b-index l.name) ≡ session_from Blank l.name)

abbrev pub invariant-loop-d : goal.invariant-loop-d
invariant-loop-d l = (l.d-index ≤ length l.digits) × (number_from l.counted (drop l.d-index l.digits) ≡ number_from counting.Blank l.digits)

abbrev pub invariant-packets : goal.invariant-packets
invariant-packets l = Going l.sender l.stream l.rest l.packets l.bytes

abbrev pub decreases-packets : goal.decreases-packets
decreases-packets l = length l.rest

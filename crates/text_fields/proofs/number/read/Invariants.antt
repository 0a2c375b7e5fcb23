-- The state after some bytes, with the bytes that follow, gives what the whole field gives.
use Rattle.std.proofs.Common.{◌≡◌, drop}
use Rattle.text_fields.specs.declared.number.NumberState.TheVariants.{Blank}
use Rattle.text_fields.specs.Number.{number_from}
use Rattle.text_fields.proofs.number.read.Given as goal

abbrev pub invariant-loop-b : goal.invariant-loop-b
invariant-loop-b l = number_from l.state (drop l.b-index l.field) ≡ number_from Blank l.field

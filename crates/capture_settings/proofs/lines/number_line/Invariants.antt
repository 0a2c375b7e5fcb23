-- The digits so far gave the value, and the bytes that follow them decide.
use Rattle.std.proofs.Common.{◌≡◌, drop}
use Rattle.capture_settings.specs.Settings.{further, line_from, line_of}
use Rattle.capture_settings.proofs.lines.number_line.Given as goal

abbrev pub invariant-loop-i : goal.invariant-loop-i
invariant-loop-i l = further l.i (line_from l.value (drop l.i l.s)) ≡ line_of l.s

-- The code, the stage, the receiver and the counts follow each other: all bytes of a reading but its lengths.
use Rattle.std.proofs.Common.{rules, ◌≡◌, ◌<◌, ◌^◌, ap, length}
use mathlib.Core.Bool.{not}
use Rattle.host_capture.proofs.ReadingLaws.{reading-lays, reading-stays}
use Rattle.host_capture.proofs.write.Goals as goal

pub returns-then-state-lt-SIZE : goal.returns-then-state-lt-SIZE
returns-then-state-lt-SIZE c = reading-stays _ _ c.if-state-lt-SIZE.true

pub returns : goal.returns
returns c =
    let x = c.args.reading.report in
    let b = x.receiver.base in
    let t = x.tally in
    let ten : length b.session ≡ 10 = search rules in
    let next : b.next.0 < 2 ^ 64 = search rules in
    let limit : b.limit.0 < 2 ^ 16 = search rules in
    let held : x.receiver.held.0 < 2 ^ 64 = search rules in
    let few : x.records < 2 ^ 32 = search rules in
    let h₁ : t.delivered < 2 ^ 64 = search rules in
    let h₂ : t.old < 2 ^ 64 = search rules in
    let h₃ : t.quiet < 2 ^ 64 = search rules in
    let h₄ : t.asked < 2 ^ 64 = search rules in
    let h₅ : t.refused < 2 ^ 64 = search rules in
    let counts = rw c.from.ensures at c.put_counts.ensures in
    reading-lays c.args.reading.stage b x.receiver.held.0 x.records t.delivered t.old t.quiet t.asked t.refused ten _ _ _ _ _ _ _
    c.if-state-lt-SIZE.false (ap not c.is_over.ensures) c.open_byte-first.ensures c.stage_byte.ensures c.put_head.ensures
    c.put_receiver.ensures counts next limit held few h₁ h₂ h₃ h₄ h₅

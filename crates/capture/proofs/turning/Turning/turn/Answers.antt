-- A turn reads what is there, and keeps what wasn't used; a buffer's elements are bytes.
use Rattle.std.proofs.Common.{arith, ◌∙◌}
use Rattle.wire.specs.Bytes.{AreBytes}
use Rattle.capture.proofs.TurningLaws.{turn-ends, turn-goes, turn-keeps, turn-little}
use Rattle.capture.proofs.turning.Turning.turn.Goals as goal

pub returns-then-got-eq0-clause-slots_after : goal.returns-then-got-eq0-clause-slots_after
returns-then-got-eq0-clause-slots_after c =
    turn-ends _ _ _ _ c.there-end.ensures.value _ _ _ _ _ c.if-got-eq0.true c.finish.ensures

pub returns-clause-slots_after : goal.returns-clause-slots_after
returns-clause-slots_after c =
    turn-goes _ _ _ _ c.there-end.ensures.value _ _ _ _ _ c.feed-fed.ensures.slots_after _ c.if-got-eq0.false
    (c.unwrap_or.ensures ∙ c.keep-kept.ensures.there_value.1)

pub returns-clause-keeps : goal.returns-clause-keeps
returns-clause-keeps c =
    turn-keeps _ _ _ _ c.there-end.ensures.value _ _ _ _ _ c.feed-fed.ensures.slots_after _ c.if-got-eq0.false c.keep-kept.ensures.moved

pub returns-clause-little : goal.returns-clause-little
returns-clause-little c =
    let small : AreBytes c.args.buf.now = λ i. omega (arith, c.slice_known-3-1.given i) in
    turn-little _ _ _ _ c.there-end.ensures.value _ _ _ _ _ c.feed-fed.ensures.slots_after _
    (c.unwrap_or.ensures ∙ c.keep-kept.ensures.there_value.1) small

-- The reader's refusal, or the first of its own that applies.
use Rattle.wire.proofs.Refusing.{checked, handed_up}
use Rattle.receiver.proofs.LadderLaws.{for-read, own-17, own-18, own-20, own-0}
use Rattle.receiver.proofs.receiver.Receiver.check.Goals as goal

pub returns-in_err-check_read : goal.returns-in_err-check_read
returns-in_err-check_read c =
    for-read _ _ _ _ _ c.in_err-check_read.field-0.0 c.check_read.ensures c.in_err-check_read.was (handed_up _ _ c.from_residual.ensures.1)

pub returns-then-is_other_session : goal.returns-then-is_other_session
returns-then-is_other_session c = own-17 _ _ _ (checked _ _ _ c.check_read.ensures c.in_ok-check_read.was) _ c.is_other_session.ensures c.if-is_other_session.true

pub returns-then-self : goal.returns-then-self
returns-then-self c = own-18 _ _ _ (checked _ _ _ c.check_read.ensures c.in_ok-check_read.was) _ c.is_other_session.ensures c.if-is_other_session.false c.if-self.true

pub returns-then-ends_below : goal.returns-then-ends_below
returns-then-ends_below c =
    own-20 _ _ _ (checked _ _ _ c.check_read.ensures c.in_ok-check_read.was) _ c.is_other_session.ensures c.if-is_other_session.false c.if-self.false
    _ c.ends_below.ensures c.if-ends_below.true

pub returns : goal.returns
returns c =
    own-0 _ _ _ (checked _ _ _ c.check_read.ensures c.in_ok-check_read.was) _ c.is_other_session.ensures c.if-is_other_session.false c.if-self.false
    _ c.ends_below.ensures c.if-ends_below.false

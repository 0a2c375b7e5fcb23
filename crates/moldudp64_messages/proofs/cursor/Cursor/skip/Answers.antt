-- The moves that are left lead where all of them lead; a cursor that stays is there already.
use native.Mathlib.Omega.{arith}
use Rattle.moldudp64_messages.proofs.CursorLaws.{skip_step}
use Rattle.moldudp64_messages.proofs.Rules.{skipping}
use Rattle.moldudp64_messages.proofs.cursor.Cursor.skip.Goals as goal

pub returns-then-datagram-at : goal.returns-then-datagram-at
returns-then-datagram-at c = search skipping

pub returns-then-size-eq0 : goal.returns-then-size-eq0
returns-then-size-eq0 c = search skipping

pub returns : goal.returns
returns c = search skipping

pub loop-preserved : goal.loop-preserved
loop-preserved c =
    skip_step _ _ _ _ _ _ _ _ c.loop.invariant (let h = c.loop-test.true in omega arith) c.whole_block-size.ensures c.if-size-eq0.false c.less_one-left.ensures (omega arith)

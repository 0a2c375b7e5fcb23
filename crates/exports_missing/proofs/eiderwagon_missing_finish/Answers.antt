-- The last bytes are fed where nothing is refused.
use Rattle.exports_missing.proofs.LentLaws.{refused-ground, refused-not, passed, refused-only, none_only}
use Rattle.exports_missing.proofs.FeedLaws.{finishes-refused, finish-zero, finishes-so}
use mathlib.Core.Path.{sym, refl}
use Rattle.exports_missing.proofs.eiderwagon_missing_finish.Goals as goal

pub returns-in-Err-clause-finishes_missing : goal.returns-in-Err-clause-finishes_missing
returns-in-Err-clause-finishes_missing c =
    finishes-refused _ _ _ _ (refused-ground _ _ c.check.result c.check.ensures c.in-Err.refused c.in-Err.is _ c.from.ensures) (refused-not _ _ c.check.result c.check.ensures c.in-Err.refused c.in-Err.is _ c.from.ensures)

pub returns-in-Err-clause-refuses : goal.returns-in-Err-clause-refuses
returns-in-Err-clause-refuses c = refused-only _ _ _ (refused-ground _ _ c.check.result c.check.ensures c.in-Err.refused c.in-Err.is _ c.from.ensures)

pub returns-clause-finishes_missing : goal.returns-clause-finishes_missing
returns-clause-finishes_missing c =
    finishes-so _ _ _ 0 _ _ _ _ _ (sym (passed _ _ c.check.result c.check.ensures (λ r e. c.in_default.not-Err r e))) refl c.write.ensures.value c.read-start.ensures c.finish-finished.ensures c.write.ensures.keeps

pub returns-clause-refuses : goal.returns-clause-refuses
returns-clause-refuses c =
    none_only _ (finish-zero _ _ c.args.bytes.now 0 c.read-start.result c.finish-finished.result c.finish-finished.new.edges c.write.new.state _ (sym (passed _ _ c.check.result c.check.ensures (λ r e. c.in_default.not-Err r e))) refl c.write.ensures.value)

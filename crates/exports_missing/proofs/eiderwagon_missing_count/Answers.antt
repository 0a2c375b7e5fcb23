-- How many ranges and numbers, where nothing is refused.
use Rattle.exports_missing.proofs.LentLaws.{refused-ground, refused-not, passed, refused-only}
use Rattle.exports_missing.proofs.ListLaws.{counts-so, answered-none, answered-only}
use Rattle.host_answers.specs.Answers.{said_refusal, said_values}
use mathlib.Core.Path.{sym}
use Rattle.exports_missing.proofs.eiderwagon_missing_count.Goals as goal

pub returns-in-Err-clause-counts_missing : goal.returns-in-Err-clause-counts_missing
returns-in-Err-clause-counts_missing c =
    answered-none _ _ _ _ _ (refused-not _ _ c.check.result c.check.ensures c.in-Err.refused c.in-Err.is _ c.from.ensures) (refused-ground _ _ c.check.result c.check.ensures c.in-Err.refused c.in-Err.is _ c.from.ensures)

pub returns-in-Err-clause-refuses : goal.returns-in-Err-clause-refuses
returns-in-Err-clause-refuses c = refused-only _ _ _ (refused-ground _ _ c.check.result c.check.ensures c.in-Err.refused c.in-Err.is _ c.from.ensures)

pub returns-clause-counts_missing : goal.returns-clause-counts_missing
unfolding said_refusal said_values
returns-clause-counts_missing c =
    counts-so _ _ _ _ 0 _ _ (sym (passed _ _ c.check.result c.check.ensures (λ r e. c.in_default.not-Err r e))) c.listed-missing.ensures _ _ _ _ c.is_usable.ensures c.flag-listing.ensures c.count-count.ensures c.total.ensures c.answer.ensures

pub returns-clause-refuses : goal.returns-clause-refuses
unfolding said_refusal said_values
returns-clause-refuses c =
    answered-only _ _ _ _ _ 0 _ (sym (passed _ _ c.check.result c.check.ensures (λ r e. c.in_default.not-Err r e))) c.answer.ensures

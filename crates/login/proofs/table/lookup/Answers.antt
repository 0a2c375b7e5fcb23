-- The record that was read in front of those left is of the entry, so it decides.
use Rattle.std.proofs.Common.{◌∙◌}
use Rattle.login.proofs.TableLaws.{lookup-decides}
use Rattle.login.proofs.table.lookup.Goals as goal

pub returns-then-first_is_of-clause-value : goal.returns-then-first_is_of-clause-value
returns-then-first_is_of-clause-value c =
    let step = c.in-Some.ensures.steps in
    lookup-decides
    _ _ _ c.loop-record.invariant.0 _ _ step.1.0 (step.1.1 ∙ c.loop-record.invariant.1) _
    c.first_is_of.ensures
    _ c.if-first_is_of.true
    c.first.ensures

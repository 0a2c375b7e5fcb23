-- The check's own refusal, or 41.
use mathlib.Core.Path.{◌≡◌}
use borrow.Author.Rules.{rules}
use Rattle.exports_early.proofs.TakeLaws.{refuse-words, refuse-own}
use Rattle.exports_early.proofs.refuse.Goals as goal

pub returns-in-Ok : goal.returns-in-Ok
returns-in-Ok c = refuse-words _ _ _ _ _ c.requires.0 c.requires.1 c.read.ensures _ c.check-checked.ensures _ c.in-Ok.is

pub returns-in-Err : goal.returns-in-Err
returns-in-Err c =
    let k : c.from.result ≡ c.in-Err.refused.number = search rules in
    rw k (refuse-own _ _ _ _ _ c.requires.0 c.requires.1 c.read.ensures _ c.check-checked.ensures _ c.in-Err.is)

-- A refusal, too few words, or the words laid.
use Rattle.std.proofs.Common.{rules, ap, length, ◌∙◌, []}
use lib.ListN.{length-replicate}
use Rattle.host_answers.proofs.AnswerLaws.{laid-ok, laid-zeros, said-refused, said-short, said-laid}
use Rattle.host_answers.proofs.answer.Goals as goal
use Rattle.host_answers.proofs.answer.Goals.{in-Ok, in-Err-2}

pub returns-in-Err : goal.returns-in-Err
returns-in-Err g c = said-refused _ _ [] c.in-Err.r _ _ c.in-Err.is c.if-r-ne0.true c.from.ensures

pub returns-then-words : goal.returns-then-words
returns-then-words g c =
    elim c.match-said.branch [
      | in-Ok w ↦ said-short _ _ _ _ (laid-ok _ _ _ _ w.in-Ok.is w.values-is) (search rules) c.if-words.true
      | in-Err-2 w ↦ said-short _ _ _ _ (laid-zeros _ _ _ _ w.in-Err.is w.if-r-ne0.false w.values-is) (ap length w.values-is ∙ length-replicate _ _) c.if-words.true
    ]

pub returns : goal.returns
returns g c =
    elim c.match-said.branch [
      | in-Ok w ↦ said-laid _ _ _ _ _ (laid-ok _ _ _ _ w.in-Ok.is w.values-is) (search rules) c.if-words.false (search rules)
      | in-Err-2 w ↦ said-laid _ _ _ _ _ (laid-zeros _ _ _ _ w.in-Err.is w.if-r-ne0.false w.values-is) (ap length w.values-is ∙ length-replicate _ _) c.if-words.false (search rules)
    ]

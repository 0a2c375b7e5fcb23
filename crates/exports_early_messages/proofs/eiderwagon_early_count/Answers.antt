-- As many as the receiver counts: a count of 16 bits caps none.
use Rattle.exports_early_messages.proofs.PartLaws.{counts-short, counts-so, told-only}
use Rattle.exports_early_messages.proofs.eiderwagon_early_count.Goals as goal

pub returns-then-state-lt-SIZE-clause-counts_messages : goal.returns-then-state-lt-SIZE-clause-counts_messages
returns-then-state-lt-SIZE-clause-counts_messages c = counts-short _ _ _ _ c.if-state-lt-SIZE.true

pub returns-clause-counts_messages : goal.returns-clause-counts_messages
returns-clause-counts_messages c =
    counts-so _ _ c.if-state-lt-SIZE.false _ c.read.ensures _ _ _ _ _ _ c.from.ensures c.count-count.ensures c.answer_sized.ensures

pub returns-clause-refuses : goal.returns-clause-refuses
returns-clause-refuses c = told-only _ _ _ _ _ c.answer_sized.ensures

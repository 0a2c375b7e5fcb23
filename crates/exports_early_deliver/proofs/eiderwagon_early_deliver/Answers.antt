use Rattle.exports_early_deliver.proofs.Rules.{calls}
use Rattle.exports_early_deliver.proofs.eiderwagon_early_deliver.Goals as goal

pub returns-then-state-lt-SIZE-clause-delivers_lent : goal.returns-then-state-lt-SIZE-clause-delivers_lent
returns-then-state-lt-SIZE-clause-delivers_lent c = search calls

pub returns-then-words-lt-ANSWER_WORDS-clause-delivers_lent : goal.returns-then-words-lt-ANSWER_WORDS-clause-delivers_lent
returns-then-words-lt-ANSWER_WORDS-clause-delivers_lent c = search calls

pub returns-clause-refuses : goal.returns-clause-refuses
returns-clause-refuses c = search calls

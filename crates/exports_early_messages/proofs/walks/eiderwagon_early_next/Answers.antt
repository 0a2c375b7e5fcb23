use Rattle.exports_early_messages.proofs.Rules.{steps, walks}
use Rattle.exports_early_messages.proofs.walks.eiderwagon_early_next.Goals as goal

pub returns-then-cursor-lt-SIZE-clause-next_part : goal.returns-then-cursor-lt-SIZE-clause-next_part
returns-then-cursor-lt-SIZE-clause-next_part c = search (steps, walks)

pub returns-then-state-lt-SIZE-clause-next_part : goal.returns-then-state-lt-SIZE-clause-next_part
returns-then-state-lt-SIZE-clause-next_part c = search (steps, walks)

pub returns-then-part-clause-next_part : goal.returns-then-part-clause-next_part
returns-then-part-clause-next_part c = search (steps, walks)

pub returns-then-part-clause-refuses : goal.returns-then-part-clause-refuses
returns-then-part-clause-refuses c = search (steps, walks)

pub returns-clause-next_part : goal.returns-clause-next_part
returns-clause-next_part c = search (steps, walks)

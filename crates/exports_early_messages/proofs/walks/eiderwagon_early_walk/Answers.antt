use Rattle.exports_early_messages.proofs.Rules.{steps, walks}
use Rattle.exports_early_messages.proofs.walks.eiderwagon_early_walk.Goals as goal

pub returns-then-state-lt-SIZE-clause-sets_walk : goal.returns-then-state-lt-SIZE-clause-sets_walk
returns-then-state-lt-SIZE-clause-sets_walk c = search (steps, walks)

pub returns-clause-sets_walk : goal.returns-clause-sets_walk
returns-clause-sets_walk c = search (steps, walks)

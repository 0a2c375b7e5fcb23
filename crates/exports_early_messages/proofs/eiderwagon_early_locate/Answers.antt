use Rattle.exports_early_messages.proofs.Rules.{parts}
use Rattle.exports_early_messages.proofs.eiderwagon_early_locate.Goals as goal

pub returns-then-state-lt-SIZE-clause-locates_message : goal.returns-then-state-lt-SIZE-clause-locates_message
returns-then-state-lt-SIZE-clause-locates_message c = search parts

pub returns-clause-locates_message : goal.returns-clause-locates_message
returns-clause-locates_message c = search parts

pub returns-clause-refuses : goal.returns-clause-refuses
returns-clause-refuses c = search parts

-- Only data that reaches the expected number delivers, and as far as it moves.
use Rattle.early_messages.proofs.Rules.{counts}
use Rattle.early_messages.proofs.message.count.Goals as goal

pub returns-in-Deliver : goal.returns-in-Deliver
returns-in-Deliver c = search counts

pub returns-in-Ask : goal.returns-in-Ask
returns-in-Ask c = search counts

pub returns-in-Refused : goal.returns-in-Refused
returns-in-Refused c = search counts

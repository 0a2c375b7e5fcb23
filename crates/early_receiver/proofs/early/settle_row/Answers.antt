-- Each answer of the plain receiver has its law.
use Rattle.early_receiver.proofs.Rules.{rows_here}
use Rattle.early_receiver.proofs.early.settle_row.Goals as goal

pub deliver-requires-clause-next_value : goal.deliver-requires-clause-next_value
deliver-requires-clause-next_value c = search rows_here

pub deliver-requires-clause-ended_value : goal.deliver-requires-clause-ended_value
deliver-requires-clause-ended_value c = search rows_here

pub stay-requires : goal.stay-requires
stay-requires c = search rows_here

pub stay-requires-in-Quiet : goal.stay-requires-in-Quiet
stay-requires-in-Quiet c = search rows_here

pub returns-in-Deliver : goal.returns-in-Deliver
returns-in-Deliver c = search rows_here

pub returns-in-Old : goal.returns-in-Old
returns-in-Old c = search rows_here

pub returns-in-Quiet : goal.returns-in-Quiet
returns-in-Quiet c = search rows_here

pub returns-in-Ask : goal.returns-in-Ask
returns-in-Ask c = search rows_here

pub returns-in-Ended : goal.returns-in-Ended
returns-in-Ended c = search rows_here

pub returns-in-Refused : goal.returns-in-Refused
returns-in-Refused c = search rows_here

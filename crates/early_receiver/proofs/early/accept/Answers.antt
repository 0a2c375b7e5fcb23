-- Each answer is a row of the table, and what the row does to the number is what the messages do one by one.
use Rattle.early_receiver.proofs.Rules.{accepts}
use Rattle.early_receiver.proofs.early.accept.Goals as goal

pub deliver-requires-clause-next_value : goal.deliver-requires-clause-next_value
deliver-requires-clause-next_value c = search accepts

pub deliver-requires-clause-ended_value : goal.deliver-requires-clause-ended_value
deliver-requires-clause-ended_value c = search accepts

pub stay-requires : goal.stay-requires
stay-requires c = search accepts

pub stay-requires-in-Quiet : goal.stay-requires-in-Quiet
stay-requires-in-Quiet c = search accepts

pub ahead-requires-clause-ended_value : goal.ahead-requires-clause-ended_value
ahead-requires-clause-ended_value c = search accepts

pub ahead-requires-clause-next_bound : goal.ahead-requires-clause-next_bound
ahead-requires-clause-next_bound c = search accepts

pub end-requires : goal.end-requires
end-requires c = search accepts

pub stay-requires-in-Refused : goal.stay-requires-in-Refused
stay-requires-in-Refused c = search accepts

pub returns-in-Deliver : goal.returns-in-Deliver
returns-in-Deliver c = search accepts

pub returns-in-Old : goal.returns-in-Old
returns-in-Old c = search accepts

pub returns-in-Quiet : goal.returns-in-Quiet
returns-in-Quiet c = search accepts

pub returns-in-Ask : goal.returns-in-Ask
returns-in-Ask c = search accepts

pub returns-in-Ended : goal.returns-in-Ended
returns-in-Ended c = search accepts

pub returns-in-Refused : goal.returns-in-Refused
returns-in-Refused c = search accepts

-- The answers, each by its law.
use Rattle.capture_tally.proofs.TallyLaws.{asks-so, parts-deliver, parts-old, parts-quiet, parts-none, parts-refused}
use Rattle.capture_tally.proofs.tally.Tally.of.Goals as goal

pub returns-in-Deliver : goal.returns-in-Deliver
returns-in-Deliver c = parts-deliver _ _ _ (asks-so _ _ _ c.is_some.ensures c.from.ensures) _ _ _ _ c.in-Deliver.is c.from-in-Deliver.ensures

pub returns-in-Old : goal.returns-in-Old
returns-in-Old c = parts-old _ _ _ (asks-so _ _ _ c.is_some.ensures c.from.ensures) c.in-Old.is

pub returns-in-Quiet : goal.returns-in-Quiet
returns-in-Quiet c = parts-quiet _ _ _ (asks-so _ _ _ c.is_some.ensures c.from.ensures) c.in-Quiet.is

pub returns-in-Ahead : goal.returns-in-Ahead
returns-in-Ahead c = parts-none _ _ _ (asks-so _ _ _ c.is_some.ensures c.from.ensures) c.in-Ahead.is

pub returns-in-Refused : goal.returns-in-Refused
returns-in-Refused c = parts-refused _ _ _ (asks-so _ _ _ c.is_some.ensures c.from.ensures) _ c.in-Refused.is

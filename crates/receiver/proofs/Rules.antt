-- The laws that the functions' proofs need, for `search`: one set for each task.
use borrow.Author.Rules.{rules}
use Rattle.wire.proofs.TestLaws.{tests}
use Rattle.receiver.proofs.StartLaws.{start-19, start-refused, least-number, largest-number, least-limit, largest-limit, start-good, start-fresh}
use Rattle.receiver.proofs.DeliveryLaws.{delivery-none, delivery-start, delivery-visits}
use Rattle.receiver.proofs.LadderLaws.{open-ended, open-space, open-same, other-named, other-has, other-hasnt, name-taken, own-17, own-18, own-20, own-0, below_end, below-data, below-heartbeat, below-refused, read_good, read-made-up, read-bad, for-read}
use Rattle.receiver.proofs.TableLaws.{ask-for, above_ask, data-deliver, data-old, beat-old, beat-quiet, end-now, row-data, row-heartbeat, row-end-of-session, row-refused, refused-read, refused-kept, well-read, own-session, read_answer, read-after}
use Rattle.receiver.proofs.Promises.{receiver-promises}
use Rattle.receiver.proofs.ConditionLaws.{condition_3, refused-change-nothing}
use Rattle.receiver.proofs.CallLaws.{calls-deliver-true}
use Rattle.receiver.proofs.WitnessLaws.{not_vacuous, not_weak}
use Rattle.receiver.proofs.ReadLaws.{read-as-whole, whole-answer, whole-after}

pub ruleset starts = (start-19, start-refused, least-number, largest-number, least-limit, largest-limit, start-good, start-fresh, condition_3, refused-change-nothing, not_vacuous, not_weak, calls-deliver-true, tests, rules)

pub ruleset names = (open-ended, open-space, open-same, other-named, other-has, other-hasnt, name-taken, rules)

pub ruleset ladder = (own-17, own-18, own-20, own-0, below_end, below-data, below-heartbeat, below-refused, read_good, read-made-up, read-bad, for-read, rules)

pub ruleset rows = (ask-for, above_ask, data-deliver, data-old, beat-old, beat-quiet, end-now, tests, rules)

pub ruleset found = (row-data, row-heartbeat, row-end-of-session, row-refused, rules)

pub ruleset takes = (refused-read, refused-kept, well-read, own-session, read_answer, read-after, read-as-whole, rules)

pub ruleset wholes = (whole-answer, whole-after, receiver-promises, rules)

pub ruleset deliveries = (delivery-none, delivery-start, delivery-visits, tests, rules)

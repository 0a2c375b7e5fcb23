-- The laws that the functions' proofs need, for `search`: one set for each task.
use borrow.Author.Rules.{rules}
use Rattle.early_receiver.proofs.Promises.{early-promises}
use Rattle.early_receiver.proofs.ReadLaws.{early-read-as-whole}
use Rattle.wire.proofs.TestLaws.{tests}
use Rattle.early_receiver.proofs.KeepingLaws.{far-is, keep-far, keeping_start, keeping-next, keeping-less, keeping-lengths, keeping-slots, keeping-end, keep-few, keep-numbered}
use Rattle.early_receiver.proofs.AnswerLaws.{in-deliver, in-old, in-quiet, in-ask, in-ended, in-made-up, in-refused, slots-right, slots-none, slots-above, slots-below, ask-is, lowest-fits, wants-nothing, wants-ahead, wants-held, ends_so, ahead-held}
use Rattle.early_receiver.proofs.StepLaws.{past_fits, past-held, deliver-free, deliver-held, moved_open, data-above, beat-above, end-above, kept-open, kept_above, ahead-kept, ahead-beat, ahead-end, ahead-refused}
use Rattle.early_receiver.proofs.AcceptLaws.{deliver-next, deliver-open, accept-deliver, old-open, accept-old, quiet-open, accept-quiet, refused-open, accept-refused, ask-above, ask-open, accept-ask, over-ended, accept-ended}
use Rattle.early_receiver.proofs.ReadLaws.{whole_takes, take-refused, take_open, take_row, take-moved, take_done}
use Rattle.early_receiver.proofs.SettleLaws.{kind-data, kind-beat, kind-end, kind-refused, here-data, here-beat, here_end, here-refused, refusal-so, row_next, row_open, row-deliver, row-old-open, row_old, row-quiet-open, row-quiet, row-ask, row-ended, row-refused, here-open, here-not, not-here, settle-open, settle-answer, settle-after, settle-done, settled-takes}

pub ruleset refusals = (refusal-so, in-deliver, in-old, in-quiet, in-ask, in-ended, in-made-up, in-refused, slots-right, slots-none, slots-above, slots-below, rules)

pub ruleset requests = (ask-is, lowest-fits, wants-nothing, wants-ahead, wants-held, ends_so, ahead-held, tests, rules)

pub ruleset keeping = (far-is, keep-far, keeping_start, keeping-next, keeping-less, keeping-lengths, keeping-slots, keeping-end, keep-few, keep-numbered, tests, rules)

pub ruleset delivers = (past_fits, past-held, deliver-free, deliver-held, moved_open, tests, rules)

pub ruleset aheads = (data-above, beat-above, end-above, kept-open, kept_above, ahead-kept, ahead-beat, ahead-end, ahead-refused, rules)

pub ruleset accepts = (deliver-next, deliver-open, accept-deliver, old-open, accept-old, quiet-open, accept-quiet, refused-open, accept-refused, ask-above, ask-open, accept-ask, over-ended, accept-ended, rules)

pub ruleset takes = (take-refused, take_open, take_row, take-moved, take_done, early-read-as-whole, rules)

pub ruleset wholes = (whole_takes, settled-takes, early-promises, rules)

pub ruleset kinds_here = (kind-data, kind-beat, kind-end, kind-refused, here-data, here-beat, here_end, here-refused, rules)

pub ruleset rows_here = (row_next, row_open, row-deliver, row-old-open, row_old, row-quiet-open, row-quiet, row-ask, row-ended, row-refused, rules)

pub ruleset settles = (here-open, here-not, not-here, settle-open, settle-answer, settle-after, settle-done, rules)

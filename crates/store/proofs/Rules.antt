-- The laws that the functions' proofs need, for `search`: one set for each task.
use borrow.Author.Rules.{rules}
use Rattle.wire.proofs.Refusing.{refusals}
use Rattle.wire.proofs.TestLaws.{tests}
use Rattle.store.proofs.StepLaws.{size_refused, setting-zero, setting-run-out, setting-good, from-below, from_past, from-there, read-refused, read-differs, read-wanted, asked-within}
use Rattle.store.proofs.PickLaws.{before-count, behind-so, takes-so, behind-fits, before-less, pick-before, pick-fit, pick-behind, pick-whole}
use Rattle.store.proofs.ProgressLaws.{store-promises}
use Rattle.store.proofs.WitnessLaws.{store-not-vacuous}
use Rattle.store.proofs.CodeLaws.{sends-part, refuse-setting, refuse-lengths, refuse-ask, refuse-long, may-send, sends, add-up-behind, adds-not-behind}

pub ruleset steps = (size_refused, setting-zero, setting-run-out, setting-good, from-below, from_past, from-there, read-refused, read-differs, read-wanted, refusals, tests, rules)

pub ruleset picks = (before-count, behind-so, takes-so, behind-fits, before-less, pick-before, pick-fit, pick-behind, pick-whole, rules)

pub ruleset sendings = (sends-part, rules)

pub ruleset answers = (store-promises, store-not-vacuous, add-up-behind, adds-not-behind, asked-within, refuse-setting, refuse-lengths, refuse-ask, refuse-long, may-send, sends, refusals, rules)

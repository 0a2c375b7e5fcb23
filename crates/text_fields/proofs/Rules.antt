-- The laws that the functions' proofs need, for `search`: one set for each file of src/.
use borrow.Author.Rules.{rules}
use Rattle.text_fields.proofs.FoldLaws.{session-fold, number-fold}
use Rattle.text_fields.proofs.FieldLaws.{number-laws}
use Rattle.text_fields.proofs.StepLaws.{letter-or-digit, raise-fits, raised-fits, lower-sum, session-space, session-begins, session-breaks, session-on, session-off, session-stays, good-blank, good-named, good-bad, session-next, session-end, more-value, more-none, number-space, number-begins, number-on, number-stays, value-blank, value-bad, value_low, value-good, number-next, number-end, passed_none, passed-next, passed-fits, passed-all}
use Rattle.text_fields.proofs.SoundLaws.{sound-exactly-when}

pub ruleset ascii = (letter-or-digit, raise-fits, raised-fits, lower-sum, rules)

pub ruleset sessions = (session-space, session-begins, session-breaks, session-on, session-off, session-stays, good-blank, good-named, good-bad, session-next, session-end, session-fold, rules)

pub ruleset numbers = (more-value, more-none, number-space, number-begins, number-on, number-stays, value-blank, value-bad, value_low, value-good, number-next, number-end, number-fold, number-laws, rules)

pub ruleset logins = (passed_none, passed-next, passed-fits, passed-all, sound-exactly-when, rules)

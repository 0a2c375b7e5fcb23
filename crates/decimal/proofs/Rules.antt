-- The laws that the functions' proofs need, for `search`: one set for each file of src/.
use borrow.Author.Rules.{rules}
use Rattle.decimal.proofs.DigitLaws.{append-low, append-high, append-large, append-value, laid-digits}
use Rattle.decimal.proofs.SpellLaws.{spells-numbers, appended-apart}

pub ruleset readings = (append-low, append-high, append-large, append-value, appended-apart, rules)

pub ruleset writings = (laid-digits, spells-numbers, rules)

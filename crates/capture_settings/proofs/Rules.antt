-- The laws that the functions' proofs need, for `search`: one set for each file of src/.
use borrow.Author.Rules.{rules}
use Rattle.capture_settings.proofs.TextLaws.{settings-promises}
use Rattle.capture_settings.proofs.LineLaws.{past-there, past-other, line-start, line-end, line-feed, line-no-digit, line-large, line-zero, line-goes}
use Rattle.capture_settings.proofs.SettingsLaws.{line-within, next_fits, both-fit, low-number, low-limit, large-limit, none-next, good-numbers, name-cut, name-open, name-unprintable, name-blank, name-good, ten-there}

pub ruleset parts = (past-there, past-other, line-start, line-end, line-feed, line-no-digit, line-large, line-zero, line-goes, rules)

pub ruleset opening = (line-within, next_fits, both-fit, low-number, low-limit, large-limit, none-next, good-numbers, name-cut, name-open, name-unprintable, name-blank, name-good, ten-there, settings-promises, rules)

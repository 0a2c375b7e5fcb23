-- The laws that the functions' proofs need, for `search`.
use borrow.Author.Rules.{rules}
use Rattle.capture_lines.proofs.PutLaws.{number-line-done, session-line-done, refused-line-done, behind-wrote, behind-refused}

pub ruleset lines = (number-line-done, session-line-done, refused-line-done, behind-wrote, behind-refused, rules)

-- The laws that the functions' proofs need, for `search`: one set for each file of src/, and one for the decision alone.
use borrow.Author.Rules.{rules}
use Rattle.login.proofs.AccountLaws.{same-unlike, differ-start, differ-fits, differ-next, differ-end, sound-both, sound-not, of-both, of-not, password-both, password-not, known_both, known-not}
use Rattle.login.proofs.TableLaws.{first-record, username-there, first_of, first-other, too_long, lookup-many, lookup-unsound, lookup-start, lookup-decides, lookup-again, lookup-end}
use Rattle.login.proofs.FoundLaws.{found-decides}
use Rattle.login.proofs.ExampleLaws.{login-promises}
use Rattle.login.proofs.DecisionLaws.{session-blank, session-ours, number-so, grant-itself, grant-largest, decide-refused, decide-nobody, decide-unknown, decide-session, decide-number, decide-accepted}

pub ruleset accounts = (same-unlike, differ-start, differ-fits, differ-next, differ-end, sound-both, sound-not, of-both, of-not, password-both, password-not, known_both, known-not, rules)

pub ruleset tables = (first-record, username-there, first_of, first-other, too_long, lookup-many, lookup-unsound, lookup-start, lookup-decides, lookup-again, lookup-end, found-decides, rules)

pub ruleset decisions = (session-blank, session-ours, number-so, grant-itself, grant-largest, rules)

pub ruleset deciding = (decide-refused, decide-nobody, decide-unknown, decide-session, decide-number, decide-accepted, login-promises, rules)

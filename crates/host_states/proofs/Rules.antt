-- The laws that the functions' proofs need, for `search`: one set for each file of src/.
use borrow.Author.Rules.{rules}
use Rattle.host_states.proofs.LittleLaws.{get-2, get-8, little-past, little-reads-back, little-16, little-64}
use Rattle.host_states.proofs.StateLaws.{open-test, open-byte-yes, open-byte-no, kept-own, kept-short, kept-zero, front-put, front-none, front_kept, front-kept-none}

pub ruleset numbers = (get-2, get-8, little-past, little-reads-back, little-16, little-64, rules)

pub ruleset states = (open-test, open-byte-yes, open-byte-no, kept-own, kept-short, kept-zero, rules)

pub ruleset fronts = (front-put, front-none, front_kept, front-kept-none, rules)

-- The laws that the functions' proofs need, for `search`: the ranges, and the whole text.
use borrow.Author.Rules.{rules}
use borrow.Author.Tests.{not-true, not-false}
use Rattle.missing_text.proofs.RangeLaws.{range-laid, putting-start, putting-room, putting-long, putting-step, end_none, end-shut, end-open}
use Rattle.missing_text.proofs.TextLaws.{edges_few, edges-double, edges_fit, edges-there, edges-size, edges_room, ranges-room, named-laid, list_written, write-short, write-many, write-list, is-usable}

pub ruleset ranges = (range-laid, putting-start, putting-room, putting-long, putting-step, end_none, end-shut, end-open, rules)

pub ruleset texts = (edges_few, edges-double, edges_fit, edges-there, edges-size, edges_room, ranges-room, named-laid, list_written, write-short, write-many, write-list, is-usable, not-true, not-false, rules)

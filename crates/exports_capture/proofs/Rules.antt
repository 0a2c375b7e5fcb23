-- The laws that the functions' proofs need, for `search`: one set for each task.
use borrow.Author.Rules.{rules}
use Rattle.host_answers.proofs.WritingLaws.{lent-within, writing-plain}
use Rattle.exports_capture.proofs.CaptureLaws.{short-only, starts-only, text-only, state-only, slots-only, none_only, starts-reading, text-short, text-reported}
use Rattle.exports_capture.proofs.FeedLaws.{feeds-short, feeds-slots, feeds-words, finishes-short, finishes-slots, part-sized, part-long, finishes-so, reading-hands-on}

pub ruleset starts = (starts-only, starts-reading, rules)

pub ruleset refusals = (state-only, slots-only, none_only, feeds-short, feeds-slots, feeds-words, reading-hands-on, rules)

pub ruleset feeds = (part-sized, rules)

pub ruleset finishes = (state-only, slots-only, none_only, finishes-short, finishes-slots, part-long, finishes-so, rules)

pub ruleset texts = (lent-within, writing-plain, short-only, text-only, text-short, text-reported, rules)

pub ruleset exported = (finishes, refusals, starts, texts)

-- All that may be refused is looked at before the reading is fed.
use Rattle.exports_missing.proofs.LentLaws.{refused-ground, refused-not, passed, refused-only}
use Rattle.exports_missing.proofs.FeedLaws.{feeds-refused, feeds-words, missing-hands-on}
use mathlib.Core.Path.{sym, refl}
use Rattle.exports_missing.proofs.eiderwagon_missing_feed.Goals as goal

pub returns-in-Err-clause-feeds_missing : goal.returns-in-Err-clause-feeds_missing
returns-in-Err-clause-feeds_missing c =
    feeds-refused _ _ _ _ (refused-ground _ _ c.check.result c.check.ensures c.in-Err.refused c.in-Err.is _ c.from.ensures) _ (refused-not _ _ c.check.result c.check.ensures c.in-Err.refused c.in-Err.is _ c.from.ensures)

pub returns-in-Err-clause-refuses : goal.returns-in-Err-clause-refuses
returns-in-Err-clause-refuses c = refused-only _ _ _ (refused-ground _ _ c.check.result c.check.ensures c.in-Err.refused c.in-Err.is _ c.from.ensures)

pub returns-in-Err-clause-hands_on : goal.returns-in-Err-clause-hands_on
returns-in-Err-clause-hands_on c = missing-hands-on

pub returns-then-words-lt-FED_WORDS-clause-feeds_missing : goal.returns-then-words-lt-FED_WORDS-clause-feeds_missing
returns-then-words-lt-FED_WORDS-clause-feeds_missing c =
    feeds-words _ _ _ 0 (sym (passed _ _ c.check.result c.check.ensures (λ r e. c.in_default.not-Err r e))) _ refl c.if-words-lt-FED_WORDS.true

pub returns-then-words-lt-FED_WORDS-clause-hands_on : goal.returns-then-words-lt-FED_WORDS-clause-hands_on
returns-then-words-lt-FED_WORDS-clause-hands_on c = missing-hands-on

pub feed-requires-clause-edges_value : goal.feed-requires-clause-edges_value
feed-requires-clause-edges_value c = passed _ _ c.check.result c.check.ensures (λ r e. c.in_default.not-Err r e)

pub returns-clause-hands_on : goal.returns-clause-hands_on
returns-clause-hands_on c = missing-hands-on

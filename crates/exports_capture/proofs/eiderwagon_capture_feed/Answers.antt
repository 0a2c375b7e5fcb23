-- All that may be refused is looked at before the reading is fed.
use native.Mathlib.Omega.{arith}
use Rattle.exports_capture.proofs.FeedLaws.{feeds-words}
use Rattle.exports_capture.proofs.Rules.{refusals}
use Rattle.exports_capture.proofs.eiderwagon_capture_feed.Goals as goal

pub returns-then-state-lt-SIZE-clause-feeds_reading : goal.returns-then-state-lt-SIZE-clause-feeds_reading
returns-then-state-lt-SIZE-clause-feeds_reading c = search refusals

pub returns-then-slots-ne-SLOT_BYTES-clause-feeds_reading : goal.returns-then-slots-ne-SLOT_BYTES-clause-feeds_reading
returns-then-slots-ne-SLOT_BYTES-clause-feeds_reading c = search refusals

pub returns-then-words-lt-FED_WORDS-clause-feeds_reading : goal.returns-then-words-lt-FED_WORDS-clause-feeds_reading
returns-then-words-lt-FED_WORDS-clause-feeds_reading c =
    feeds-words _ _ _ _ c.if-state-lt-SIZE.false c.if-slots-ne-SLOT_BYTES.false (omega (arith, c.if-words-lt-FED_WORDS.true))

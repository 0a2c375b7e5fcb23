-- What was used and whether it is over, and the next reading kept where it moved.
use Rattle.exports_capture.proofs.FeedLaws.{feed-none, feeds-laid, feeds-more, moved-used, moved-over, not-moved}
use Rattle.host_answers.specs.Answers.{said_refusal, said_values}
use Rattle.exports_capture.proofs.feed.Goals as goal
use Rattle.exports_capture.proofs.feed.Goals.{then-fed-ne0-via-then-fed-ne0, then-fed-ne0-via-else-fed-ne0+then-over}

pub returns-then-fed-ne0-clause-feeds_reading : goal.returns-then-fed-ne0-clause-feeds_reading
unfolding said_refusal said_values
returns-then-fed-ne0-clause-feeds_reading c =
    elim c.then-fed-ne0.branch [
      | then-fed-ne0-via-then-fed-ne0 w ↦
          feeds-laid _ _ _ _ _ _ _ _ _ _ _ _ c.requires.sized c.requires.in_bounds c.read-start.ensures c.feed-fed.ensures.slots_after c.is_over-over.ensures c.flag.ensures
          c.answer-code.ensures _ (moved-used _ _ w.if-fed-ne0.true) c.write.ensures
      | then-fed-ne0-via-else-fed-ne0+then-over w ↦
          feeds-laid _ _ _ _ _ _ _ _ _ _ _ _ c.requires.sized c.requires.in_bounds c.read-start.ensures c.feed-fed.ensures.slots_after c.is_over-over.ensures c.flag.ensures
          c.answer-code.ensures _ (moved-over _ _ w.if-over.true) c.write.ensures
    ]

pub returns-then-fed-ne0-clause-none : goal.returns-then-fed-ne0-clause-none
unfolding said_refusal said_values
returns-then-fed-ne0-clause-none c =
    feed-none _ _ _ _ _ _ _ _ _ _ _ _ c.requires.sized c.requires.in_bounds c.read-start.ensures c.feed-fed.ensures.slots_after c.is_over-over.ensures c.flag.ensures
    c.answer-code.ensures

pub returns-else-over-clause-feeds_reading : goal.returns-else-over-clause-feeds_reading
unfolding said_refusal said_values
returns-else-over-clause-feeds_reading c =
    feeds-more _ _ _ _ _ _ _ _ _ _ _ _ c.requires.sized c.requires.in_bounds c.read-start.ensures c.feed-fed.ensures.slots_after c.is_over-over.ensures c.flag.ensures
    c.answer-code.ensures (not-moved _ _ c.if-fed-ne0.false c.if-over.false)

pub returns-else-over-clause-none : goal.returns-else-over-clause-none
unfolding said_refusal said_values
returns-else-over-clause-none c =
    feed-none _ _ _ _ _ _ _ _ _ _ _ _ c.requires.sized c.requires.in_bounds c.read-start.ensures c.feed-fed.ensures.slots_after c.is_over-over.ensures c.flag.ensures
    c.answer-code.ensures

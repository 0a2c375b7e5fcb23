-- What was used and whether it is over, and the next reading kept where it moved.
use Rattle.exports_missing.proofs.FeedLaws.{laid-zero, feeds-laid, feed-none, feeds-more, moved-used, moved-over, not-moved}
use Rattle.host_answers.specs.Answers.{said_refusal, said_values}
use Rattle.exports_missing.proofs.feed.Goals.{then-fed-ne0-via-then-fed-ne0, then-fed-ne0-via-else-fed-ne0+then-over}
use Rattle.exports_missing.proofs.feed.Goals as goal

pub returns-then-fed-ne0-clause-feeds_missing : goal.returns-then-fed-ne0-clause-feeds_missing
unfolding said_refusal said_values
returns-then-fed-ne0-clause-feeds_missing c =
    elim c.then-fed-ne0.branch [
      | then-fed-ne0-via-then-fed-ne0 w ↦
          feeds-laid _ _ _ _ _ _ _ _ _ _ _ c.requires.edges_value c.requires.in_bounds c.read-start.ensures c.feed-fed.ensures.edges_after c.is_over-over.ensures
          c.flag.ensures c.answer-code.ensures _ c.write.ensures.value _ (moved-used _ _ w.if-fed-ne0.true) c.write.ensures.keeps
      | then-fed-ne0-via-else-fed-ne0+then-over w ↦
          feeds-laid _ _ _ _ _ _ _ _ _ _ _ c.requires.edges_value c.requires.in_bounds c.read-start.ensures c.feed-fed.ensures.edges_after c.is_over-over.ensures
          c.flag.ensures c.answer-code.ensures _ c.write.ensures.value _ (moved-over _ _ w.if-over.true) c.write.ensures.keeps
    ]

pub returns-then-fed-ne0-clause-none : goal.returns-then-fed-ne0-clause-none
unfolding said_refusal said_values
returns-then-fed-ne0-clause-none c =
    laid-zero _ _ _ _ _ _ _ _ _ _ _ c.requires.edges_value c.requires.in_bounds c.read-start.ensures c.feed-fed.ensures.edges_after c.is_over-over.ensures
    c.flag.ensures c.answer-code.ensures _ c.write.ensures.value

pub returns-clause-feeds_missing : goal.returns-clause-feeds_missing
unfolding said_refusal said_values
returns-clause-feeds_missing c =
    feeds-more _ _ _ _ _ _ _ _ _ _ _ c.requires.edges_value c.requires.in_bounds c.read-start.ensures c.feed-fed.ensures.edges_after c.is_over-over.ensures
    c.flag.ensures c.answer-code.ensures (not-moved _ _ c.if-fed-ne0.false c.if-over.false)

pub returns-clause-none : goal.returns-clause-none
unfolding said_refusal said_values
returns-clause-none c =
    feed-none _ _ _ _ _ _ _ _ _ _ _ c.requires.edges_value c.requires.in_bounds c.read-start.ensures c.feed-fed.ensures.edges_after c.is_over-over.ensures
    c.flag.ensures c.answer-code.ensures

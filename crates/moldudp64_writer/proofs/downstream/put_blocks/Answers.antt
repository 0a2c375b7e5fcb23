-- A message's length and its data are one write, of its block.
use Rattle.moldudp64_writer.proofs.LayingLaws.{laying-next}
use Rattle.moldudp64_writer.proofs.Rules.{layings}
use Rattle.moldudp64_writer.proofs.downstream.put_blocks.Goals as goal

pub slice_bounds-lay-end : goal.slice_bounds-lay-end
slice_bounds-lay-end c = search layings

pub slice_bounds-rest-count : goal.slice_bounds-rest-count
slice_bounds-rest-count c = search layings

pub loop-length-preserved : goal.loop-length-preserved
loop-length-preserved c = laying-next c.loop-length.invariant c.loop-length-test.true _ _ c.lay16.ensures.after c.lay.ensures.after

pub returns : goal.returns
returns c = search layings

pub slice_bounds-rest-start : goal.slice_bounds-rest-start
slice_bounds-rest-start c = search layings

-- The plan tells how many edges and ranges there will be; only then are they replaced.
use Rattle.missing_ranges.proofs.Rules.{cuts}
use Rattle.missing_ranges.proofs.ranges.Missing.take_out.Goals as goal
use Rattle.missing_ranges.proofs.ranges.Missing.take_out.Goals.{then-edges-size-via-then-edges-size, then-edges-size-via-else-edges-size+then-too_many}

pub returns-then-edges-size : goal.returns-then-edges-size
returns-then-edges-size c =
    elim c.then-edges-size.branch [
      | then-edges-size-via-then-edges-size w ↦ search cuts
      | then-edges-size-via-else-edges-size+then-too_many w ↦ search cuts
    ]

pub replace-requires : goal.replace-requires
replace-requires c = search cuts

pub returns : goal.returns
returns c = search cuts

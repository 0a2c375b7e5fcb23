-- What the records still to be read make of the report so far is what all of them make of the first.
use Rattle.capture.proofs.Rules.{taking}
use Rattle.capture.proofs.reading.take_records.Goals as goal

pub returns-in_default : goal.returns-in_default
returns-in_default c = search taking

pub slice_bounds-step-count : goal.slice_bounds-step-count
slice_bounds-step-count c = search taking

pub slice_bounds-step-start : goal.slice_bounds-step-start
slice_bounds-step-start c = search taking

pub slice_bounds-step-end : goal.slice_bounds-step-end
slice_bounds-step-end c = search taking

pub slice_bounds-rest-count : goal.slice_bounds-rest-count
slice_bounds-rest-count c = search taking

pub slice_bounds-rest-start : goal.slice_bounds-rest-start
slice_bounds-rest-start c = search taking

pub loop-report-smaller : goal.loop-report-smaller
loop-report-smaller c = search taking

pub loop-report-preserved : goal.loop-report-preserved
loop-report-preserved c = search taking

pub returns : goal.returns
returns c = search taking

-- What the events still to be read make of the notes so far is what all of them make of the first.
use Rattle.missing_capture.proofs.Rules.{looping}
use Rattle.missing_capture.proofs.reading.Reading.advance.Goals as goal

pub overflow_add-result : goal.overflow_add-result
overflow_add-result c = search looping

pub returns-in_default : goal.returns-in_default
returns-in_default c = search looping

pub slice_bounds-note-end : goal.slice_bounds-note-end
slice_bounds-note-end c = search looping

pub slice_bounds-rest-count : goal.slice_bounds-rest-count
slice_bounds-rest-count c = search looping

pub slice_bounds-rest-start : goal.slice_bounds-rest-start
slice_bounds-rest-start c = search looping

pub loop-event-smaller : goal.loop-event-smaller
loop-event-smaller c = search looping

pub loop-event-preserved : goal.loop-event-preserved
loop-event-preserved c = search looping

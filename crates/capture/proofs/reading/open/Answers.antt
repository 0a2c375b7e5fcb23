-- Settings that were read lie within the bytes, and so do the records used after them.
use Rattle.std.proofs.Common.{arith}
use Rattle.capture.proofs.StageLaws.{open-fits}
use Rattle.capture.proofs.Rules.{opening}
use Rattle.capture.proofs.reading.open.Goals as goal

pub slice_bounds-take_records-count : goal.slice_bounds-take_records-count
slice_bounds-take_records-count c = search opening

pub slice_bounds-take_records-start : goal.slice_bounds-take_records-start
slice_bounds-take_records-start c = search opening

pub returns-in-Ok : goal.returns-in-Ok
returns-in-Ok c = search opening

pub returns-in-Err : goal.returns-in-Err
returns-in-Err c = search opening

pub overflow_add-result : goal.overflow_add-result
overflow_add-result c =
    open-fits _ _ _ c.read.ensures.value c.in-Ok.is c.args.report _ _ _ _ _ _ c.take_records-fed.ensures (omega arith)

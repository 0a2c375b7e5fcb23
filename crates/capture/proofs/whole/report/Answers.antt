-- Finishing a fresh reading with all bytes is the whole capture, whatever bytes its lengths and slots have.
use Rattle.capture.proofs.WholeLaws.{whole-report}
use Rattle.capture.proofs.ExampleLaws.{printed_example}
use Rattle.capture.proofs.Rules.{writing}
use Rattle.capture.proofs.whole.report.Goals as goal

pub returns-clause-writes : goal.returns-clause-writes
returns-clause-writes c =
    whole-report _ _ _ _ _ _ _ _ _ _ c.new-start.ensures c.finish-end.ensures (search writing) (search writing) c.write.ensures

pub returns-clause-example : goal.returns-clause-example
returns-clause-example c = printed_example

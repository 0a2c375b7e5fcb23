-- No ground applies, so by the count it is one of the three kinds.
use Rattle.wire.proofs.Refusing.{checked}
use Rattle.moldudp64.proofs.DownstreamLaws.{read-heartbeat, read-end}
use Rattle.moldudp64.proofs.Rules.{downstreams}
use Rattle.moldudp64.proofs.downstream.read.Goals as goal

pub returns-then-is_zero-clause-result_value : goal.returns-then-is_zero-clause-result_value
returns-then-is_zero-clause-result_value c =
    read-heartbeat _ _ c.message_count-count.result (checked _ _ _ c.check.ensures c.in_ok-check.was) (search downstreams) (search downstreams) (search downstreams)

pub returns-then-eq-clause-result_value : goal.returns-then-eq-clause-result_value
returns-then-eq-clause-result_value c =
    read-end _ _ c.message_count-count.result (checked _ _ _ c.check.ensures c.in_ok-check.was) (search downstreams) (search downstreams) (search downstreams)

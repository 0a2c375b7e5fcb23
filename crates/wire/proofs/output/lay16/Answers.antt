-- The library's bytes of a number are its bytes.
use Rattle.wire.proofs.Rules.{outputs}
use Rattle.wire.proofs.output.lay16.Goals as goal

pub returns-then-is_ok-clause-after : goal.returns-then-is_ok-clause-after
returns-then-is_ok-clause-after c = search outputs

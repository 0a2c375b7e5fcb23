-- The library's bytes are those of the definition.
use Rattle.host_states.proofs.LittleLaws.{little-64}
use Rattle.host_states.proofs.little.put64.Goals as goal

pub returns-clause-out_after : goal.returns-clause-out_after
returns-clause-out_after c = little-64 _ _ _ _ _ c.lay.ensures.after c.to_le_bytes.ensures

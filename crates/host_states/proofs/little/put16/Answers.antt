-- The library's bytes are those of the definition.
use Rattle.host_states.proofs.LittleLaws.{little-16}
use Rattle.host_states.proofs.little.put16.Goals as goal

pub returns-clause-out_after : goal.returns-clause-out_after
returns-clause-out_after c = little-16 _ _ _ _ _ c.lay.ensures.after c.to_le_bytes.ensures

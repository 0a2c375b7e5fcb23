-- What was taken is kept, with the lengths lent as a part of the state.
use Rattle.exports_early.proofs.TakeLaws.{takes-there}
use Rattle.exports_early.proofs.take_lent.Goals as goal

pub returns : goal.returns
returns c =
    takes-there _ _ _ _ c.requires.0 c.requires.1 c.requires.2 _ c.read-receiver.ensures _ c.requires.3 _ _ _ _ _ _ c.take_read-taken.ensures.takes_early_read c.keep.ensures

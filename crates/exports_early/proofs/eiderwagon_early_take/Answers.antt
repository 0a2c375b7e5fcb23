-- What can't be read is refused before the state is looked at.
use mathlib.Core.Path.{◌≡◌}
use borrow.Author.Rules.{rules}
use Rattle.exports_early.proofs.TakeLaws.{takes-unread, takes-short, takes-only}
use Rattle.exports_early.proofs.eiderwagon_early_take.Goals as goal

pub returns-in-Err-clause-takes_lent : goal.returns-in-Err-clause-takes_lent
returns-in-Err-clause-takes_lent c =
    let k : c.from.result ≡ c.in-Err.unread.number = search rules in
    rw k (takes-unread _ _ _ _ _ c.read-packet.ensures.result_value _ c.in-Err.is)

pub returns-then-state-lt-SIZE-clause-takes_lent : goal.returns-then-state-lt-SIZE-clause-takes_lent
returns-then-state-lt-SIZE-clause-takes_lent c = takes-short _ _ _ _ _ c.read-packet.ensures.result_value _ c.in_default.is c.if-state-lt-SIZE.true

pub returns-clause-refuses : goal.returns-clause-refuses
returns-clause-refuses c = takes-only _ _ _ _ _ _ _ _ c.take_read.ensures

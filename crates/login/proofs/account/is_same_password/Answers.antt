-- Both fields end at once, since they are as long as each other.
use Rattle.std.proofs.lemmas.Iterator.{empty_from_Zip}
use Rattle.login.proofs.AccountLaws.{differ-end}
use Rattle.login.proofs.account.is_same_password.Goals as goal

pub returns : goal.returns
returns c =
    let over = empty_from_Zip _ c.next.new.self _ c.in-None.is c.next.ensures.steps c.loop-x.invariant.lengths in
    differ-end _ _ _ _ _ c.loop-x.invariant over.0 over.1

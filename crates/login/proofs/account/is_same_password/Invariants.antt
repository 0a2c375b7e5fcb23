-- Of the bytes so far it is known how many differ, and those left decide the rest.
use Rattle.std.specs.Iterator.Adapters.{zip_first, zip_second}
use Rattle.std.specs.Slice.Iter.{iter_rest}
use Rattle.login.proofs.AccountLaws.{DifferOn}
use Rattle.login.proofs.account.is_same_password.Given as goal

abbrev pub invariant-loop-x : goal.invariant-loop-x
invariant-loop-x l = DifferOn l.a l.b (iter_rest (zip_first l.x-iterator)) (iter_rest (zip_second l.x-iterator)) l.differ

-- None of the records before this one is the entry's: the rest of the table decides as the whole does.
use Rattle.accounts.proofs.ScanLaws.{Undecided}
use Rattle.accounts.proofs.lookup.Given as goal

abbrev pub invariant-loop-account : goal.invariant-loop-account
invariant-loop-account l = Undecided l.table l.entry l.account-index

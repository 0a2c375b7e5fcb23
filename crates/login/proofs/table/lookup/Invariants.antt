-- The records before those left aren't of the entry, so those left decide.
use Rattle.std.proofs.Common.{◌≡◌}
use Rattle.std.specs.Slice.Iter.{chunks_exact_rest, chunks_exact_size}
use Rattle.login.proofs.TableLaws.{LookedIn}
use Rattle.login.proofs.table.lookup.Given as goal

abbrev pub invariant-loop-record : goal.invariant-loop-record
invariant-loop-record l = LookedIn l.table l.entry (chunks_exact_rest l.record-iterator) × (chunks_exact_size l.record-iterator ≡ 16)

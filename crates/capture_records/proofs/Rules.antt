-- The laws that the functions' proofs need, for `search`: one set for each file of src/.
use borrow.Author.Rules.{rules}
use Rattle.capture_records.proofs.RecordLaws.{read-stub, read-cut, read_whole, record-promises}
use Rattle.capture_records.proofs.BufferLaws.{places-all, places-out, places-back, size-all, size-out, size_back, keep_out, keep-back, keep-end}

pub ruleset fronts = (read-stub, read-cut, read_whole, record-promises, rules)

pub ruleset buffers = (places-all, places-out, places-back, size-all, size-out, size_back, keep_out, keep-back, keep-end, rules)

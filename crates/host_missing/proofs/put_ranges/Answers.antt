-- One behind the other.
use Rattle.host_missing.proofs.ReadingLaws.{ranges-put, byte-flag}
use Rattle.host_missing.proofs.put_ranges.Goals as goal

pub returns : goal.returns
returns c =
    let m = c.args.missing in
    let left = rw c.from.ensures at c.put64-2.ensures.out_after in
    ranges-put m.highest.0 c.args.left m.closed m.refused _ _ _ _ _ _ c.requires c.put64.ensures.out_after left
    c.put64-3.ensures.out_after (byte-flag m.refused _ c.from-2.ensures) c.lay.ensures.after

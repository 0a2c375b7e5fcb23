-- One behind the other.
use Rattle.host_capture.proofs.ReadingLaws.{counts-put}
use Rattle.host_capture.proofs.put_counts.Goals as goal

pub returns : goal.returns
returns c =
    let t = c.args.tally in
    counts-put c.args.records t.delivered t.old t.quiet t.asked t.refused _ _ _ _ _ _ _ c.requires c.put64.ensures.out_after
    c.put64-2.ensures.out_after c.put64-3.ensures.out_after c.put64-4.ensures.out_after c.put64-5.ensures.out_after
    c.put64-6.ensures.out_after

-- Its five lines follow each other, so they are one text.
use Rattle.capture_text.proofs.TextLaws.{tally-laid}
use Rattle.capture_text.proofs.report_text.put_tally.Goals as goal

pub returns : goal.returns
returns c =
    tally-laid _ _ _ _ _ _ _ _ _ _ _ _ _ c.put_count-a.ensures c.put_count-b.ensures c.put_count-c.ensures c.put_count-d.ensures
    c.put_count.ensures c.requires

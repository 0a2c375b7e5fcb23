use borrow.Author.Rules.{rules}
use Rattle.soupbintcp.proofs.ScanLaws.{scan-next, scan-bad-packet}
use Rattle.soupbintcp.proofs.Rules.{scans}
use Rattle.soupbintcp.proofs.scan.scan.Goals as goal

pub slice_bounds-rest-count : goal.slice_bounds-rest-count
slice_bounds-rest-count c = search scans

pub slice_bounds-rest-start : goal.slice_bounds-rest-start
slice_bounds-rest-start c = search scans

pub overflow_add-bytes : goal.overflow_add-bytes
overflow_add-bytes c = search scans

pub packets-preserved : goal.packets-preserved
packets-preserved c =
    scan-next
    _ _ _ _ _ _ _ _ _ _ _ _ _ _
    c.packets.invariant
    c.read.ensures
    c.in-Whole.is
    c.letter-letter.ensures
    c.session_field-name.ensures
    c.loop-b.invariant
    (search rules)
    c.is_blank_allowed.ensures
    c.is_good.ensures
    (search rules)
    c.number_field-digits.ensures
    c.loop-d.invariant
    (search rules)
    c.least.ensures
    c.value-read.ensures
    c.packet.ensures
    c.if-is_none.ensures

pub returns-in-NeedMore-clause-scans : goal.returns-in-NeedMore-clause-scans
returns-in-NeedMore-clause-scans c = search scans

pub returns-in-Refused-clause-scans : goal.returns-in-Refused-clause-scans
returns-in-Refused-clause-scans c = search scans

pub returns-in-Bad-clause-scans : goal.returns-in-Bad-clause-scans
returns-in-Bad-clause-scans c = search scans

pub returns-then-not-is_good-clause-scans : goal.returns-then-not-is_good-clause-scans
returns-then-not-is_good-clause-scans c = search scans

pub returns-in-Bad-counted-clause-scans : goal.returns-in-Bad-counted-clause-scans
returns-in-Bad-counted-clause-scans c = search scans

pub returns-then-is_none-clause-scans : goal.returns-then-is_none-clause-scans
returns-then-is_none-clause-scans c =
    scan-bad-packet
    _ _ _ _ _ _ _ _ _ _ _ _ _ _
    c.packets.invariant
    c.read.ensures
    c.in-Whole.is
    c.letter-letter.ensures
    c.session_field-name.ensures
    c.loop-b.invariant
    (search rules)
    c.is_blank_allowed.ensures
    c.is_good.ensures
    (search rules)
    c.number_field-digits.ensures
    c.loop-d.invariant
    (search rules)
    c.least.ensures
    c.value-read.ensures
    c.packet.ensures
    c.if-is_none.ensures

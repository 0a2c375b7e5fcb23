-- The words are those of the scan that was promised.
use Rattle.exports_scan.proofs.ScanLaws.{scan-answers, scan-only}
use Rattle.exports_scan.proofs.eiderwagon_soup_scan.Goals as goal

pub returns-clause-answers_with : goal.returns-clause-answers_with
returns-clause-answers_with c = scan-answers _ _ _ _ _ _ c.sender_of.ensures _ _ c.scan-scanned.ensures.scans c.stop_number.ensures c.answer.ensures

pub returns-clause-refuses : goal.returns-clause-refuses
returns-clause-refuses c =
    scan-only
    _ _ _ _ (scan-answers _ _ _ _ _ _ c.sender_of.ensures _ _ c.scan-scanned.ensures.scans c.stop_number.ensures c.answer.ensures)

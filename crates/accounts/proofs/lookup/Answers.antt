-- Each way out is a law about the record that the scan stands at.
use Rattle.std.proofs.Common.{sym, ◌∙◌}
use Rattle.login.proofs.FoundLaws.{found-decides}
use Rattle.accounts.proofs.AccountsLaws.{flat-same}
use Rattle.accounts.proofs.ScanLaws.{scan-many, scan-unsound, scan-hit, scan-miss, scan-over}
use Rattle.accounts.proofs.lookup.Goals as goal

pub returns-then-table-gt-MOST_ACCOUNTS : goal.returns-then-table-gt-MOST_ACCOUNTS
returns-then-table-gt-MOST_ACCOUNTS c = (scan-many _ _ c.if-table-gt-MOST_ACCOUNTS.true, found-decides, flat-same)

pub returns-then-not-is_sound : goal.returns-then-not-is_sound
returns-then-not-is_sound c =
    (scan-unsound _ _ c.if-table-gt-MOST_ACCOUNTS.false (sym c.is_sound.ensures ∙ c.if-not-is_sound.true), found-decides, flat-same)

pub returns-then-is_of : goal.returns-then-is_of
returns-then-is_of c =
    let sound = sym c.is_sound.ensures ∙ c.if-not-is_sound.false in
    let its = sym c.is_of.ensures ∙ c.if-is_of.true in
    (scan-hit _ _ c.if-table-gt-MOST_ACCOUNTS.false sound _ c.loop-account.invariant c.loop-account-test.true its, found-decides, flat-same)

pub loop-account-preserved : goal.loop-account-preserved
loop-account-preserved c =
    let sound = sym c.is_sound.ensures ∙ c.if-not-is_sound.false in
    let other = sym c.is_of.ensures ∙ c.if-is_of.false in
    scan-miss _ _ c.if-table-gt-MOST_ACCOUNTS.false sound _ c.loop-account.invariant c.loop-account-test.true other

pub returns : goal.returns
returns c =
    let sound = sym c.is_sound.ensures ∙ c.if-not-is_sound.false in
    (scan-over _ _ c.if-table-gt-MOST_ACCOUNTS.false sound _ c.loop-account.invariant c.loop-account-test.false, found-decides, flat-same)

-- The search over the pairs finds one that differs where the texts do.
use Rattle.std.proofs.Common.{rules, tests}
use Rattle.std.proofs.lemmas.Iterator.{YieldsList-from_slice, YieldsList-from_zip, cases_from_all}
use Rattle.login.proofs.AccountLaws.{Alike, Unlike, alike-so}
use Rattle.login.proofs.account.is_same_username.Goals as goal

pub returns-then-a-b : goal.returns-then-a-b
returns-then-a-b c =
    alike-so _ _ _ c.if-a-b.true
    (cases_from_all
    c.all.new.self _ _ Alike Unlike
    c.all.ensures.ran
    (YieldsList-from_zip (YieldsList-from_slice c.args.a.now cc) (YieldsList-from_slice c.args.b.now cc))
    (λ x q k. search (rules, tests))
    (λ x q k. search (rules, tests)))

-- What `all` answers is the definition's test of each byte.
use Rattle.std.proofs.Common.{rules, ◌≤◌, ℕ}
use Rattle.std.specs.Prelude.{All, IsTrue, ◌↔◌}
use Rattle.capture_settings.proofs.LineLaws.{print-so}
use Rattle.capture_settings.proofs.lines.is_printable.Goals as goal

pub returns : goal.returns
returns c =
    let h : IsTrue c.all.result ↔ All (λ (b : ℕ). (32 ≤ b) × (b ≤ 126)) c.args.s.now = search rules in
    print-so _ _ h

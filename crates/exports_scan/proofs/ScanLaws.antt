-- The words of a scan, and its one refusal.
use Prim.Native.Nat.{ℕ}
use mathlib.Core.List.{List, [], ◌∷◌}
use mathlib.Core.Path.{◌≡◌, refl}
use Rattle.soupbintcp.specs.declared.packet.Sender.{Sender}
use Rattle.soupbintcp.specs.declared.scan.Scanned.{Scanned}
use Rattle.std.specs.Prelude.{Ok}
use Rattle.soupbintcp.specs.Scan.{stop_words, scan_of, Scans}
use Rattle.host_answers.specs.Answers.{said_refusal, said_values, is_one_of, RefusesOnly, AnswersWith}
use Rattle.host_answers.proofs.OnlyLaws.{answers-only}
use Rattle.host_sender.specs.Sender.{sender_of}
use Rattle.exports_scan.specs.Scan.{scan_words}

module _ (n : ℕ) (s : Sender) (l : List ℕ) (r : ℕ) (ws ws' : List ℕ) (e : s ≡ sender_of n) where
  pub scan-answers : (x : Scanned) (k : ℕ) → Scans x s l → k ≡ (stop_words x.stop).refusal
      → AnswersWith r ws ws' (said_refusal (Ok (x.packets ∷ x.bytes ∷ k ∷ []))) (said_values 3 (Ok (x.packets ∷ x.bytes ∷ k ∷ [])))
      → AnswersWith r ws ws' 0 (scan_words (scan_of (sender_of n) l))
  unfolding said_refusal said_values
  scan-answers x k f a h = rw (← e, ← f.packets, ← f.bytes, ← f.stop, ← a) h

pub scan-only : (r : ℕ) (ws ws' vs : List ℕ) → AnswersWith r ws ws' 0 vs → RefusesOnly r (41 ∷ [])
unfolding is_one_of
scan-only r ws ws' vs a = answers-only r 0 ws ws' vs (41 ∷ []) a refl refl

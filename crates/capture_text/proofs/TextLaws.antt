-- Laws of the report's text: its parts laid one after the other, and that it is the front of what they were laid in.
use mathlib.Core.Path.{◌≡◌, ap, ◌∙◌}
use mathlib.Core.Bool.{Bool, true, false}
use mathlib.Core.List.{List, ◌++◌}
use Prim.Native.Nat.{ℕ, ◌+◌, ◌*◌, ◌^◌, ◌≤◌, ◌<◌}
use native.Mathlib.Omega.{arith}
use lib.ListN.{length, take, drop, length-append}
use lib.Seq.{take_at}
use Rattle.wire.specs.Output.{Written}
use Rattle.wire.specs.Output.{Writes}
use Rattle.wire.proofs.Outputs.{put-room}
use Rattle.receiver.specs.declared.receiver.Receiver.{Receiver}
use Rattle.capture_tally.specs.declared.tally.Tally.{Tally}
use Rattle.capture_tally.specs.declared.report.Report.{Report}
use Rattle.capture_settings.specs.Settings.{next_key}
use Rattle.capture_settings.specs.Statements.{line}
use Rattle.capture_lines.specs.Lines.{number_line, session_line, behind_of, LaysLine}
use Rattle.capture_lines.proofs.LineLaws.{number-length, session-length, wrote-laid, then-laid, then-wrote, laid-within}
use Rattle.capture_text.specs.Text.{ended_key, yes, no, ended_line, delivered_key, old_key, quiet_key, asked_key, refused_key, receiver_text, tally_text, report_text, room}

-- ---- the lines

pub name-laid : (l m : List ℕ) (w : Written) (a : ℕ) (name : List ℕ) → length name ≡ 10 → Writes w l m 0 0 (session_line name) → a ≡ behind_of 0 w
    → room ≤ length l → length l * 1 < 2 ^ 63 → LaysLine a l m 0 (session_line name) 19
name-laid l m w a name n x p h f = wrote-laid w 19 x p (omega (arith, session-length name n)) (omega arith) f

pub count-laid : (l m : List ℕ) (w : Written) (at a : ℕ) (key : List ℕ) (n : ℕ) → Writes w l m 0 at (number_line key n) → a ≡ behind_of at w
    → at + length key + 21 ≤ length l → length l * 1 < 2 ^ 63 → LaysLine a l m at (number_line key n) (length key + 21)
count-laid l m w at a key n x p h f = wrote-laid w (length key + 21) x p (number-length key n) (omega arith) f

module _ (e : Bool) (w : Written) (l m : List ℕ) (at : ℕ) where
  pub ended-written : e ≡ true → Writes w l m 0 at (line ended_key yes) → Writes w l m 0 at (ended_line e)
  unfolding ended_line
  ended-written f x = rw f x

  pub not-ended-written : e ≡ false → Writes w l m 0 at (line ended_key no) → Writes w l m 0 at (ended_line e)
  unfolding ended_line
  not-ended-written f x = rw f x

ended-length : (e : Bool) → length (ended_line e) ≤ 10
unfolding ended_line
ended-length true = omega arith
ended-length false = omega arith

-- ---- the parts

pub receiver-laid : (x : Receiver) (l m o p : List ℕ) (w : Written) (a b c : ℕ) → LaysLine a l m 0 (session_line x.session) 19
    → LaysLine b m o a (number_line next_key x.next.0) 26 → Writes w o p 0 b (ended_line x.ended) → c ≡ behind_of b w
    → room ≤ length l → length l * 1 < 2 ^ 63 → LaysLine c l p 0 (receiver_text x) 60
unfolding receiver_text
receiver-laid x l m o p w a b c s t z g h f =
    let y = then-laid s t (omega arith) in
    laid-within 60 (then-wrote w 10 y z g (ended-length x.ended) (omega arith) f) (omega arith)

pub tally-laid : (t : Tally) (l m o p q r : List ℕ) (at a b c d e : ℕ) → LaysLine a l m at (number_line delivered_key t.delivered) 31
    → LaysLine b m o a (number_line old_key t.old) 25 → LaysLine c o p b (number_line quiet_key t.quiet) 27
    → LaysLine d p q c (number_line asked_key t.asked) 27 → LaysLine e q r d (number_line refused_key t.refused) 29 → at + 140 ≤ length l
    → LaysLine e l r at (tally_text t) 140
unfolding tally_text
tally-laid t l m o p q r at a b c d e x₁ x₂ x₃ x₄ x₅ h =
    let s₂ = then-laid x₁ x₂ (omega arith) in
    let s₃ = then-laid s₂ x₃ (omega arith) in
    let s₄ = then-laid s₃ x₄ (omega arith) in
    laid-within 140 (then-laid s₄ x₅ (omega arith)) (omega arith)

pub report-laid : (x : Report) (l m o : List ℕ) (a b : ℕ) → LaysLine a l m 0 (receiver_text x.receiver.base) 60
    → LaysLine b m o a (tally_text x.tally) 140 → room ≤ length l → LaysLine b l o 0 (report_text x) 200
unfolding report_text
report-laid x l m o a b u v h = then-laid u v (omega arith)

-- ---- the whole, copied from the front of a text of its own: z is that text before, t after

module _ (x : Report) (z t : List ℕ) (n : ℕ) (p : LaysLine n z t 0 (report_text x) 200) (h : room ≤ length z) where
  report-front : take n t ≡ report_text x
  report-front =
      let g : 0 + length (report_text x) ≤ length z = omega (arith, p.within) in
      let e : t ≡ report_text x ++ drop (0 + length (report_text x)) z = p.bytes ∙ put-room z 0 (report_text x) g in
      let k : length (report_text x) ≡ n = omega (arith, p.place) in
      rw e (take_at (report_text x) (drop (0 + length (report_text x)) z) n k)

  pub report-there : n ≡ length (take n t)
  report-there = let e = ap length report-front in omega (arith, p.place)

  pub report-written : (r : Written) (l m : List ℕ) → Writes r l m 0 0 (take n t) → Writes r l m 0 0 (report_text x)
  report-written r l m w = rw report-front at w

-- ---- how long the texts are

receiver-length : (x : Receiver) → length x.session ≡ 10 → length (receiver_text x) ≤ 60
unfolding receiver_text
receiver-length x h =
    simp length-append
    (omega (arith, session-length x.session h, number-length next_key x.next.0, ended-length x.ended))

tally-length : (t : Tally) → length (tally_text t) ≤ 140
unfolding tally_text
tally-length t =
    simp length-append
    (omega (
      arith,
      number-length delivered_key t.delivered,
      number-length old_key t.old,
      number-length quiet_key t.quiet,
      number-length asked_key t.asked,
      number-length refused_key t.refused,
    ))

pub report-fits : (x : Report) → length x.receiver.base.session ≡ 10 → length (report_text x) ≤ 200
unfolding report_text
report-fits x h =
    omega (
      arith,
      length-append (receiver_text x.receiver.base) (tally_text x.tally),
      receiver-length x.receiver.base h,
      tally-length x.tally,
    )

-- Laws of lines laid one after the other: what a writer's answer says of one, two of them, and how long each is.
use mathlib.Core.Path.{◌≡◌, ap, sym, ◌∙◌}
use mathlib.Core.List.{List, [], ◌∷◌, ◌++◌}
use Prim.Native.Nat.{ℕ, ◌+◌, ◌*◌, ◌^◌, ◌≤◌, ◌<◌}
use native.Mathlib.Omega.{arith}
use lib.ListN.{length, length-append}
use borrow.Author.Tests.{le-ltb}
use Rattle.wire.specs.Bounds.{largest_number, up_to}
use Rattle.wire.specs.Output.{Written}
use Rattle.std.specs.Prelude.{Ok, Err}
use Rattle.wire.specs.Output.{written_words, Writes}
use Rattle.wire.proofs.Words.{which-of}
use Rattle.wire.proofs.Outputs.{put-put, length-put, WroteSo, wrote_so, writes-done}
use Rattle.decimal.specs.Decimal.{digits}
use Rattle.decimal.proofs.SpellLaws.{length_digits}
use Rattle.capture_settings.specs.Settings.{session_key, line_feed}
use Rattle.capture_settings.specs.Statements.{line}
use Rattle.capture_lines.specs.Lines.{number_line, session_line, refused_line, settings_refused, behind_of, LaysLine}

-- ---- how long a line is

pub line-length : (key text : List ℕ) → length (line key text) ≡ length key + length text + 1
line-length key text = omega (arith, length-append (key ++ text) (line_feed ∷ []), length-append key text)

pub number-length : (key : List ℕ) (n : ℕ) → length (number_line key n) ≤ length key + 21
unfolding number_line
number-length key n = omega (arith, line-length key (digits n), length_digits n)

pub session-length : (name : List ℕ) → length name ≡ 10 → length (session_line name) ≡ 19
unfolding session_line
session-length name h = omega (arith, line-length session_key name)

pub refused-fits : length settings_refused ≤ 200
unfolding refused_line
refused-fits = omega arith

-- ---- one part, and two

-- what a writer with room answers is that it laid its part
pub wrote-laid : (w : Written) {l m : List ℕ} {at a : ℕ} {bs : List ℕ} (most : ℕ) → Writes w l m 0 at bs → a ≡ behind_of at w
    → length bs ≤ most → at + most ≤ length l → length l * 1 < 2 ^ 63 → LaysLine a l m at bs most
unfolding behind_of written_words up_to
wrote-laid (Ok k) {l} {m} {at} {a} {bs} most w e n h f =
    let s : WroteSo 0 l at bs k = wrote_so 0 l at bs k (sym w.answers) in
    let g : at + k ≤ largest_number = omega (arith, s.size) in
    record { place = e ∙ rw (le-ltb _ _ g) (ap (λ (i : ℕ). at + i) s.size); bytes = w.leaves; within = n }
wrote-laid (Err q) {l} {m} {at} {a} {bs} most w e n h f =
    let d = (writes-done l at bs m (omega arith) w.leaves).answers in
    let c = which-of (w.answers ∙ sym d) in
    let z : ◌≡◌ {A = ℕ} 0 1 = cc in
    absurd (omega arith)

-- one after the other they are one part
pub then-laid : {l m o : List ℕ} {at a b : ℕ} {x y : List ℕ} {k n : ℕ} → LaysLine a l m at x k → LaysLine b m o a y n → at + k + n ≤ length l
    → LaysLine b l o at (x ++ y) (k + n)
then-laid {l} {m} {o} {at} {a} {b} {x} {y} {k} {n} p q h =
    let s = length-append x y in
    let r : at + length x + length y ≤ length l = omega (arith, p.within, q.within) in
    record {
      place = omega (arith, p.place, q.place);
      bytes = q.bytes ∙ rw (p.bytes, p.place) (put-put l at x y r);
      within = omega (arith, p.within, q.within);
    }

-- the output stays as long as it was
pub laid-long : {l m : List ℕ} {at a : ℕ} {x : List ℕ} {k : ℕ} → LaysLine a l m at x k → length m ≡ length l
laid-long {l} {m} {at} {a} {x} p = ap length p.bytes ∙ length-put l at x

-- a part, and what a writer laid behind it
pub then-wrote : (w : Written) {l m o : List ℕ} {at a b : ℕ} {x y : List ℕ} {k : ℕ} (most : ℕ) → LaysLine a l m at x k → Writes w m o 0 a y
    → b ≡ behind_of a w → length y ≤ most → at + k + most ≤ length l → length l * 1 < 2 ^ 63
    → LaysLine b l o at (x ++ y) (k + most)
then-wrote w {l} {m} {o} {at} {a} {b} {x} {y} {k} most p q e n h f =
    let s = laid-long p in
    then-laid p (wrote-laid w most q e n (omega (arith, p.place, p.within)) (omega arith)) h

-- a larger bound
pub laid-within : {l m : List ℕ} {at a : ℕ} {x : List ℕ} {k : ℕ} (n : ℕ) → LaysLine a l m at x k → k ≤ n → LaysLine a l m at x n
laid-within n p h = record { place = p.place; bytes = p.bytes; within = omega (arith, p.within) }

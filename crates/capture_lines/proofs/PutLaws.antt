-- The writers of lines, as their code has them.
use mathlib.Core.Path.{◌≡◌, ◌∙◌}
use mathlib.Core.List.{List, [], ◌∷◌, ◌++◌}
use Prim.Native.Nat.{ℕ, ◌+◌, ◌≤◌, min}
use native.Mathlib.Omega.{arith}
use lib.ListN.{length, take, length-append}
use lib.Dec.{leb}
use mir.Val.{Fits}
use mir.Syntax.{w64}
use Rattle.io.specs.Digits.{last_digits as io-digits, IsDigitCount}
use Rattle.wire.specs.Bounds.{largest_number}
use Rattle.wire.specs.Refusals.{output_short}
use Rattle.wire.specs.declared.refusal.Refusal.{Refusal}
use Rattle.wire.specs.Output.{Written}
use Rattle.std.specs.Prelude.{if◌then◌else◌, Result, Ok, Err, ⊤}
use Rattle.wire.specs.Output.{put, Writes}
use Rattle.wire.specs.Words.{refused_by}
use Rattle.wire.proofs.Rooms.{capped-sum}
use Rattle.wire.proofs.Outputs.{put-put, lay-over, writes-done}
use Rattle.decimal.proofs.SpellLaws.{decimal-digits}
use Rattle.capture_settings.specs.Settings.{session_key, line_feed}
use Rattle.capture_settings.specs.Statements.{line}
use Rattle.capture_lines.specs.Lines.{number_line, session_line, refused_word, refused_line, behind_of}
use Rattle.capture_lines.proofs.LineLaws.{line-length}

-- ---- a line

module _ (l key value : List ℕ) (at : ℕ) where
  pub line-over : (s : Result ⊤ Refusal) (w : Written) (r : Refusal)
      → s ≡ refused_by (if leb (at + (length key + length value + 1)) (length l) then 0 else output_short) → s ≡ Err r → w ≡ Err r
      → Writes w l l 0 at (line key value)
  line-over s w r e d f = lay-over l at (line key value) s w r (rw (line-length key value) e) d f

  pub line-done : (m o p : List ℕ) → at + (length key + length value + 1) ≤ length l
      → m ≡ put l at key → o ≡ put m (at + length key) value → p ≡ put o (at + length key + length value) (line_feed ∷ [])
      → Writes (Ok (length key + length value + 1)) l p 0 at (line key value)
  line-done m o p h u v w =
      let n = length-append key value in
      let both : o ≡ put l at (key ++ value) = v ∙ rw u (put-put l at key value (omega arith)) in
      let i : at + length key + length value ≡ at + length (key ++ value) = omega arith in
      let all : p ≡ put l at (line key value) = w ∙ rw (both, i) (put-put l at (key ++ value) (line_feed ∷ []) (omega arith)) in
      rw (← line-length key value) (writes-done l at (line key value) p (omega (arith, line-length key value)) all)

-- ---- what it carries

pub number-line-done : (r : Written) (l m key : List ℕ) (at k n : ℕ) (ds : List ℕ) → Fits w64 n → IsDigitCount 10 1 n k → take k ds ≡ io-digits 10 k n
    → Writes r l m 0 at (line key (take k ds)) → Writes r l m 0 at (number_line key n)
unfolding number_line
number-line-done r l m key at k n ds f w e p = rw (e ∙ decimal-digits k n f.fits w) at p

pub session-line-done : (r : Written) (l m : List ℕ) (at : ℕ) (name : List ℕ) → Writes r l m 0 at (line session_key name) → Writes r l m 0 at (session_line name)
unfolding session_line
session-line-done r l m at name p = p

pub refused-line-done : (r : Written) (l m key : List ℕ) → Writes r l m 0 0 (line key refused_word) → Writes r l m 0 0 (refused_line key)
unfolding refused_line
refused-line-done r l m key p = p

-- ---- the place behind it

pub behind-wrote : (w : Written) (at k s : ℕ) → w ≡ Ok k → s ≡ min (at + k) largest_number → s ≡ behind_of at w
unfolding behind_of
behind-wrote w at k s e p = rw e (capped-sum at k s p)

pub behind-refused : (w : Written) (at : ℕ) (q : Refusal) → w ≡ Err q → at ≡ behind_of at w
unfolding behind_of
behind-refused w at q e = rw e

-- A number field laid: r, l and m are the answer, the output and its exit where the digits of n were laid, k is their size.
use mathlib.Core.Path.{◌≡◌, ap, sym, ◌∙◌}
use mathlib.Core.List.{List, [], ◌∷◌, ◌++◌, append-nil}
use Prim.Native.Nat.{ℕ, ◌+◌, ◌-◌, ◌≤◌}
use native.Mathlib.Omega.{arith}
use lib.ListN.{length, take, drop, replicate, length-replicate, replicate-append-replicate, drop_of_length-le}
use lib.Seq.{length-take-le, take_at}
use borrow.Author.Tests.{le-leb}
use Rattle.wire.specs.Words.{says, refused_words}
use Rattle.wire.specs.Output.{wrote, written_words, put, write_refusal, write_answer, Writes}
use Rattle.wire.specs.declared.refusal.Refusal.{Refusal}
use Rattle.wire.specs.Output.{Written}
use Rattle.std.specs.Prelude.{Ok, Err}
use Rattle.wire.proofs.Words.{which-of}
use Rattle.wire.proofs.Outputs.{put-room, length-put, wrote_so, wrote-front}
use Rattle.decimal.specs.Decimal.{digits}
use Rattle.decimal.proofs.SpellLaws.{length_digits}
use Rattle.text_fields.specs.Letters.{space}
use Rattle.text_fields.specs.Number.{number_field_size, number_field}

-- digits laid at the end of spaces
field_put : (n : ℕ) → put (replicate number_field_size space) (number_field_size - length (digits n)) (digits n) ≡ number_field n
unfolding number_field
field_put n =
    let k = number_field_size - length (digits n) in
    let s = replicate number_field_size space in
    let h = length_digits n in
    let m = length-replicate number_field_size space in
    let b : k + length (digits n) ≡ number_field_size = omega arith in
    let i : s ≡ replicate k space ++ replicate (length (digits n)) space =
    sym (replicate-append-replicate k (length (digits n)) space ∙ ap (λ (j : ℕ). replicate j space) b) in
    let t : take k s ≡ replicate k space =
    ap (take k) i ∙ take_at (replicate k space) (replicate (length (digits n)) space) k (length-replicate k space) in
    let d : drop (k + length (digits n)) s ≡ [] = drop_of_length-le s {i = k + length (digits n)} (omega arith) in
    put-room s k (digits n) (omega arith) ∙ rw (t, d) (append-nil (replicate k space ++ digits n))

abbrev zeros : List ℕ
zeros = replicate number_field_size 0

-- the digits of every number have room in 20 bytes
pub never-refused : (x : Refusal) (m f : List ℕ) (n : ℕ) → Writes (Err x) zeros m 0 0 (digits n) → f ≡ number_field n
unfolding written_words write_answer write_refusal
never-refused x m f n w =
    let h : 0 + length (digits n) ≤ length zeros = omega (arith, length_digits n) in
    let a : refused_words x ≡ says wrote (length (digits n) ∷ []) = w.answers ∙ rw (le-leb _ _ h) in
    let c = which-of a in
    let z : ◌≡◌ {A = ℕ} 0 1 = cc in
    absurd (omega arith)

module _ (l m : List ℕ) (n k : ℕ) (w : Writes (Ok k) l m 0 0 (digits n)) where
  laid : write_answer 0 l 0 (digits n) ≡ says wrote (k ∷ [])
  unfolding written_words
  laid = sym w.answers

  pub laid-small : k ≤ number_field_size
  laid-small = omega (arith, length_digits n, (wrote_so 0 l 0 (digits n) k laid).size)

  pub laid-within : k ≤ length m
  laid-within = let s = wrote_so 0 l 0 (digits n) k laid in omega (arith, s.size, s.room, ap length w.leaves, length-put l 0 (digits n))

  pub laid-part : k ≡ length (take k m)
  laid-part = sym (length-take-le k m laid-within)

  laid-digits : take k m ≡ digits n
  laid-digits = rw w.leaves (wrote-front 0 l (digits n) k laid)

  -- behind the spaces that are left of 20: g is the field of spaces, f, with the digits y laid at its end
  pub justified : (f g y : List ℕ) → f ≡ replicate number_field_size space → y ≡ take k m → g ≡ put f (number_field_size - k) y → g ≡ number_field n
  justified f g y s e p =
      let z = (wrote_so 0 l 0 (digits n) k laid).size in
      p ∙ rw (s, e, laid-digits, z) (field_put n)

pub field-laid : (r : Written) (l m : List ℕ) (at n : ℕ) (f : List ℕ) → f ≡ number_field n → Writes r l m 0 at f → Writes r l m 0 at (number_field n)
field-laid r l m at n f e w = rw e at w

-- A receiver that keeps early messages laid, and read back.
use Prim.Native.Nat.{ℕ, ◌+◌, ◌^◌, ◌≤◌, ◌<◌, ◌-◌}
use mathlib.Core.List.{List, [], ◌∷◌, ◌++◌, append_assoc}
use mathlib.Core.Bool.{Bool, true, false, not}
use mathlib.Core.Path.{◌≡◌, refl, ap, ap₂, ◌∙◌}
use native.Mathlib.Omega.{arith}
use lib.ListN.{length, take, drop, length-append, length-replicate, length-drop}
use lib.Seq.{take_at, length-take-le}
use borrow.Author.Tests.{lt-ltb, le-ltb, eq-eqb}
use Rattle.wire.specs.Bounds.{session_size}
use Rattle.wire.specs.Output.{put, Writes}
use Rattle.wire.specs.Output.{Written}
use Rattle.wire.specs.Parts.{first_bytes}
use Rattle.wire.proofs.Cases.{below_or_not}
use Rattle.wire.proofs.Numbers.{part_to_end}
use Rattle.wire.proofs.PartLaws.{name-ten}
use Rattle.wire.proofs.Outputs.{length-put, put-before}
use Rattle.receiver.specs.Receiver.{receiver, refused_receiver}
use Rattle.early_holding.specs.declared.holding.EarlyReceiver.{EarlyReceiver}
use Rattle.early_holding.specs.Holding.{early, next_of}
use Rattle.host_states.specs.Little.{little, little_bytes}
use Rattle.host_states.specs.States.{early_code, is_open, open_byte, on_code, StatePromises, front_bytes}
use Rattle.host_states.proofs.LittleLaws.{length-little}
use Rattle.host_states.proofs.StateLaws.{open-back, put_next, length_front, keeps-not, laid-front, past-field, little-past-field, little-in-front, name-in-front, state-promises}
use Rattle.host_early.specs.Early.{kept, head_bytes, kept_bytes, early_in, lengths_in, kept_in, KeepsKept, no_lengths, LaysHead}

-- ---- read

pub early-short : (l : List ℕ) → length l < 157 → early refused_receiver 0 ≡ early_in l
unfolding early_in
early-short l h = rw (lt-ltb (length l) 157 h)

pub early-read : (l name : List ℕ) (n limit held : ℕ) (b : Bool) → 157 ≤ length l → name ≡ first_bytes session_size (take (length l - 1) (drop 1 l))
    → n ≡ little l 11 8 → limit ≡ little l 19 2 → held ≡ little l 21 8
    → b ≡ is_open early_code l → early (receiver name n limit (not b)) held ≡ early_in l
unfolding early_in
early-read l name n limit held b h p q r t s = rw (le-ltb (length l) 157 h, s, t, r, q, p, part_to_end 1 l)

-- the name stands behind the code
pub name-within : (l : List ℕ) → 157 ≤ length l → 1 ≤ length l
name-within l h = omega arith

-- one that was read has a name of ten bytes
pub early-ten : (l : List ℕ) → length (early_in l).base.session ≡ session_size
unfolding early_in
early-ten l =
    below_or_not _ (length l) 157 (λ h. rw (lt-ltb (length l) 157 h) refl)
    (λ h. rw (le-ltb (length l) 157 h) (name-ten (drop 1 l)))

pub lengths-long : (l : List ℕ) → 157 ≤ length l → lengths_in l ≡ take 128 (drop 29 l)
unfolding lengths_in
lengths-long l h = rw (le-ltb (length l) 157 h) refl

length_none : length no_lengths ≡ 128
length_none = length-replicate {A = ℕ} 128 0

-- and 128 bytes of lengths
pub lengths-few : (l : List ℕ) → length (lengths_in l) ≡ 128
unfolding lengths_in
lengths-few l =
    below_or_not _ (length l) 157 (λ h. rw (lt-ltb (length l) 157 h) length_none)
    (λ h. rw (le-ltb (length l) 157 h) (length-take-le 128 (drop 29 l) (omega (arith, length-drop 29 l))))

-- ---- laid

pub length-head : (r : EarlyReceiver) → length r.base.session ≡ session_size → length (head_bytes r) ≡ 29
unfolding head_bytes
length-head r ten =
    let f = front_bytes (open_byte early_code (not r.base.ended)) r.base.session (next_of r) in
    let front : length f ≡ 19 = length_front (open_byte early_code (not r.base.ended)) r.base.session (next_of r) ten in
    let two : length (f ++ little_bytes 2 r.base.limit.0) ≡ 21 = length-append f (little_bytes 2 r.base.limit.0) ∙ omega (arith, front, length-little 2 r.base.limit.0) in
    length-append (f ++ little_bytes 2 r.base.limit.0) (little_bytes 8 r.held.0) ∙ omega (arith, two, length-little 8 r.held.0)

not-not : (b : Bool) → not (not b) ≡ b
not-not true = refl
not-not false = refl

module _ (name : List ℕ) (n limit held : ℕ) (ended : Bool) (ten : length name ≡ session_size) where
  abbrev first : ℕ
  first = open_byte early_code (not ended)

  abbrev it : EarlyReceiver
  it = early (receiver name n limit ended) held

  -- its fields, one behind the other
  head-fields : (b : List ℕ) → head_bytes it ++ b ≡ (first ∷ []) ++ (name ++ (little_bytes 8 n ++ (little_bytes 2 limit ++ (little_bytes 8 held ++ b))))
  unfolding head_bytes front_bytes
  head-fields b = simp append_assoc

  head-ended : (b : List ℕ) → not (is_open early_code ((first ∷ []) ++ b)) ≡ ended
  head-ended b = rw (open-back early_code (not ended) b (omega arith)) (not-not ended)

  -- it is read from them, whatever follows
  pub head-back : (l m : List ℕ) → 157 ≤ length m → m ≡ head_bytes it ++ l → n < 2 ^ 64 → limit < 2 ^ 16 → held < 2 ^ 64 → early_in m ≡ it
  unfolding early_in
  head-back l m h e u v w =
      rw (le-ltb (length m) 157 h, e, head-fields l, head-ended (name ++ (little_bytes 8 n ++ (little_bytes 2 limit ++ (little_bytes 8 held ++ l)))))
      (rw (
        past-field (first ∷ []) (name ++ (little_bytes 8 n ++ (little_bytes 2 limit ++ (little_bytes 8 held ++ l)))) 1 refl,
        name-in-front session_size name _ ten,
        little-past-field (first ∷ []) _ 1 refl 10 8,
        little-past-field name _ 10 ten 0 8,
        little-in-front 8 n _ u,
        little-past-field (first ∷ []) _ 1 refl 18 2,
        little-past-field name _ 10 ten 8 2,
        little-past-field (little_bytes 8 n) _ 8 (length-little 8 n) 0 2,
        little-in-front 2 limit _ v,
        little-past-field (first ∷ []) _ 1 refl 20 8,
        little-past-field name _ 10 ten 10 8,
        little-past-field (little_bytes 8 n) _ 8 (length-little 8 n) 2 8,
        little-past-field (little_bytes 2 limit) _ 2 (length-little 2 limit) 0 8,
        little-in-front 8 held _ w,
      ))

  pub head-lays : (l l₁ l₂ l₃ : List ℕ) (b : ℕ) → 157 ≤ length l → b ≡ open_byte early_code (not ended) → l₁ ≡ put l 0 (front_bytes b name n)
      → l₂ ≡ put l₁ 19 (little_bytes 2 limit) → l₃ ≡ put l₂ 21 (little_bytes 8 held) → n < 2 ^ 64 → limit < 2 ^ 16 → held < 2 ^ 64
      → LaysHead l l₃ it
  unfolding head_bytes
  head-lays l l₁ l₂ l₃ b h e p q s u v w =
      let front = length_front first name n ten in
      let a = put_next l l₁ l₂ (front_bytes first name n) (little_bytes 2 limit) 19 front (omega (arith, length-little 2 limit)) (rw e at p) q in
      let k₂ : length (front_bytes first name n ++ little_bytes 2 limit) ≡ 21 = length-append (front_bytes first name n) (little_bytes 2 limit) ∙ omega (arith, length-little 2 limit, front) in
      let a₃ : l₃ ≡ put l 0 (head_bytes it) = put_next l l₂ l₃ (front_bytes first name n ++ little_bytes 2 limit) (little_bytes 8 held) 21 k₂ (omega (arith, length-little 8 held)) a s in
      let k : length l₃ ≡ length l = ap length a₃ ∙ length-put l 0 _ in
      record {
        laid = rw (le-ltb (length l) 157 h) a₃;
        back = λ g. head-back _ l₃ (omega arith) (a₃ ∙ laid-front l _ (omega (arith, length-head it ten))) u v w;
      }

pub head-short : (l : List ℕ) (r : EarlyReceiver) → length l < 157 → LaysHead l l r
head-short l r h = record { laid = rw (lt-ltb (length l) 157 h) refl; back = λ g. absurd (omega arith) }

-- ---- kept

module _ (r : EarlyReceiver) (lengths l : List ℕ) (ten : length r.base.session ≡ session_size) (few : length lengths ≡ 128) where
  pub length-kept : length (kept_bytes (kept r lengths)) ≡ 157
  unfolding kept_bytes
  length-kept = length-append (head_bytes r) lengths ∙ omega (arith, length-head r ten, few)

  -- lengths laid first, and then what stands before them
  pub kept-laid : (l₁ m : List ℕ) → 157 ≤ length l → l₁ ≡ put l 29 lengths → LaysHead l₁ m r → KeepsKept true l m (kept r lengths)
  unfolding kept_bytes
  kept-laid l₁ m h e d =
      let head = length-head r ten in
      let k : length l₁ ≡ length l = ap length e ∙ length-put l 29 lengths in
      let one : m ≡ put l₁ 0 (head_bytes r) = d.laid ∙ rw (le-ltb (length l₁) 157 (omega arith)) refl in
      let two : put (put l (0 + length (head_bytes r)) lengths) 0 (head_bytes r) ≡ put l 0 (head_bytes r ++ lengths) = put-before l 0 (head_bytes r) lengths (omega arith) in
      let all : m ≡ put l 0 (head_bytes r ++ lengths) = one ∙ rw e refl ∙ (rw head at two) in
      let front = laid-front l (head_bytes r ++ lengths) (omega (arith, length-kept)) in
      record {
        fits = length-kept;
        leaves = all;
        reads_back = λ t g. ap₂ kept (d.back (omega arith))
            (lengths-long m (omega (arith, ap length all ∙ length-put l 0 (head_bytes r ++ lengths))) ∙ ap (λ (x : List ℕ). take 128 (drop 29 x)) (all ∙ front)
            ∙ ap (take 128) (ap (drop 29) (append_assoc (head_bytes r) lengths _) ∙ past-field (head_bytes r) _ 29 head)
            ∙ take_at lengths _ 128 few);
      }

  pub kept-not : (c : ℕ) → (c ≡ 0 → ⊥) → KeepsKept (on_code c) l l (kept r lengths)
  kept-not c z = keeps-not l 157 kept_in _ _ length-kept c z

pub kept-promises : StatePromises KeepsKept 157 kept_bytes
kept-promises = state-promises 157 kept_in kept_bytes

-- ---- a fresh one, as `write_fresh` has it

pub lengths-put : (l m bs : List ℕ) (x : Written) → Writes x l m 0 29 bs → m ≡ put l 29 bs
lengths-put l m bs x w = w.leaves

module _ (r : EarlyReceiver) (l : List ℕ) (c : ℕ) (ten : length r.base.session ≡ session_size) where
  pub kept_fresh : (l₁ m : List ℕ) → c ≡ 0 → 157 ≤ length l → l₁ ≡ put l 29 no_lengths → LaysHead l₁ m r → KeepsKept (on_code c) l m (kept r no_lengths)
  kept_fresh l₁ m z h e d = rw (eq-eqb c 0 z) (kept-laid r no_lengths l ten length_none l₁ m h e d)

  pub fresh-not : (c ≡ 0 → ⊥) → KeepsKept (on_code c) l l (kept r no_lengths)
  fresh-not z = kept-not r no_lengths l ten length_none c z

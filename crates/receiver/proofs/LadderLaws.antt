-- Laws of the refusals: r is the receiver, l the datagram, p what the reader found in it.
use mathlib.Core.Path.{◌≡◌, refl, ap, sym, ◌∙◌}
use mathlib.Core.List.{List}
use mathlib.Core.Bool.{Bool, true, false, not, true≢false}
use Prim.Native.Nat.{ℕ}
use native.Mathlib.Omega.{arith}
use lib.ListN.{length, get_or, take, length-take}
use lib.Dec.{ltb}
use borrow.Author.Tests.{eq-eqb, ne_eqb, not-false}
use Rattle.std.specs.Prelude.{if◌then◌else◌}
use Rattle.wire.specs.Bounds.{blank}
use Rattle.wire.specs.Bytes.{same_bytes}
use Rattle.wire.specs.Parts.{first_bytes}
use Rattle.wire.proofs.PartLaws.{first-there}
use Rattle.wire.proofs.Same.{same-equal, alike, different}
use Rattle.wire.specs.declared.refusal.Refusal.{Refusal}
use Rattle.wire.specs.declared.kinds.SequenceNumber.{SequenceNumber}
use Rattle.wire.specs.declared.kinds.MessageCount.{MessageCount}
use Rattle.moldudp64.specs.Header.{number_of}
use Rattle.std.specs.Prelude.{Result, Ok, Err, ⊤}
use Rattle.wire.specs.Words.{refused_by}
use Rattle.wire.proofs.Refusing.{passes, refuses-by, has-ground, handed-by}
use Rattle.moldudp64.proofs.DownstreamLaws.{no_refusal}
use Rattle.moldudp64.specs.declared.downstream.Downstream.{Downstream}
use Rattle.moldudp64.specs.declared.downstream.Downstream.TheVariants.{Data, Heartbeat, EndOfSession}
use Rattle.moldudp64.specs.Downstream.{kind_of, refusal_of, downstream_words}
use Rattle.receiver.specs.declared.receiver.Receiver.{Receiver}
use Rattle.receiver.specs.Receiver.{receiver, name_by, named_by, other_session, open_for, end_below, own_refusal, refusal_for, below_read_at, below_read, refusal_read}

-- ---- the name: u is whether there is none yet, h whether the datagram has it

module _ (r : Receiver) (l : List ℕ) (h : Bool) (f : h ≡ same_bytes (take 10 l) r.session) where
  -- a name that doesn't end in a space
  pub other-named : (get_or r.session 9 0 ≡ 32 → ⊥) → not h ≡ other_session r l
  unfolding other_session
  other-named z = rw (different r.session blank (λ e. z (ap (λ (x : List ℕ). get_or x 9 0) e)), f)

  module _ (u : Bool) (e : u ≡ same_bytes r.session blank) where
    by_name : (t : Bool) → u ≡ t → other_session r l ≡ if h then t else not t
    unfolding other_session
    by_name true g = let b = same-equal r.session blank (sym e ∙ g) in let k = rw b at f in rw (← e, g, ← k) (turned h)
      where
        turned : (x : Bool) → x ≡ if x then true else false
        turned true = refl
        turned false = refl
    by_name false g = rw (← e, g, ← f) (turned h)
      where
        turned : (x : Bool) → not x ≡ if x then false else true
        turned true = refl
        turned false = refl

    pub other-has : h ≡ true → u ≡ other_session r l
    other-has g = rw (by_name u refl, g)

    pub other-hasnt : h ≡ false → not u ≡ other_session r l
    other-hasnt g = rw (by_name u refl, g)

-- ---- open for a datagram

module _ (r : Receiver) (l : List ℕ) where
  pub open-ended : r.ended ≡ true → false ≡ open_for r l
  unfolding open_for
  open-ended e = rw e refl

  pub open-space : r.ended ≡ false → get_or r.session 9 0 ≡ 32 → false ≡ open_for r l
  unfolding open_for
  open-space e z = rw (e, eq-eqb _ _ z) refl

  pub open-same : (h : Bool) → h ≡ same_bytes (take 10 l) r.session → r.ended ≡ false → (get_or r.session 9 0 ≡ 32 → ⊥) → h ≡ open_for r l
  unfolding open_for
  open-same h f e z = rw (e, ne_eqb _ _ z) f

-- a datagram that isn't of another session begins with the name that is taken
pub name-taken : (r : Receiver) (l name : List ℕ) → other_session r l ≡ false → length r.session ≡ 10 → name ≡ first_bytes 10 l
    → receiver name r.next.0 r.limit.0 r.ended ≡ named_by r l
unfolding name_by other_session
name-taken r l name o n f = rw f (by-case (same_bytes r.session blank) refl o)
  where
    own : not (same_bytes (take 10 l) r.session) ≡ false → first_bytes 10 l ≡ r.session
    own z =
        let e : take 10 l ≡ r.session = same-equal (take 10 l) r.session (not-false _ z) in
        let k : length (take 10 l) ≡ 10 = ap length e ∙ n in
        first-there 10 l (omega (arith, length-take 10 l)) ∙ e

    by-case : (u : Bool) → same_bytes r.session blank ≡ u → (if u then same_bytes (take 10 l) blank else not (same_bytes (take 10 l) r.session)) ≡ false
        → receiver (first_bytes 10 l) r.next.0 r.limit.0 r.ended ≡ receiver (name_by r.session l) r.next.0 r.limit.0 r.ended
    by-case true e z = rw e
    by-case false e z = rw (e, own z)

-- ---- the ladder, by what was read

module _ (r : Receiver) (p : Result Downstream Refusal) where
  pub below_end : (d : Downstream) (n : SequenceNumber) (t : Bool) → p ≡ Ok d → d ≡ EndOfSession n → t ≡ ltb n.0 r.next.0 → t ≡ below_read r (downstream_words p)
  unfolding downstream_words below_read_at end_below
  below_end d n t k e f = rw (k, e) f

  pub below-data : (d : Downstream) (n : SequenceNumber) (c : MessageCount) → p ≡ Ok d → d ≡ Data n c → false ≡ below_read r (downstream_words p)
  unfolding downstream_words below_read_at end_below
  below-data d n c k e = rw (k, e) refl

  pub below-heartbeat : (d : Downstream) (n : SequenceNumber) → p ≡ Ok d → d ≡ Heartbeat n → false ≡ below_read r (downstream_words p)
  unfolding downstream_words below_read_at end_below
  below-heartbeat d n k e = rw (k, e) refl

  pub below-refused : (x : Refusal) → p ≡ Err x → false ≡ below_read r (downstream_words p)
  unfolding downstream_words below_read_at
  below-refused x e = rw e refl

-- what the reader refused
pub read_good : (p : Result Downstream Refusal) (d : Downstream) → p ≡ Ok d → Ok tt ≡ refused_by (downstream_words p).refusal
read_good p d e = passes _ (rw e (no_refusal d))

pub read-made-up : (p : Result Downstream Refusal) (x : Refusal) → p ≡ Err x → x.number ≡ 0 → Ok tt ≡ refused_by (downstream_words p).refusal
unfolding downstream_words
read-made-up p x e z = passes _ (rw (e, z) refl)

pub read-bad : (p : Result Downstream Refusal) (x : Refusal) → p ≡ Err x → (x.number ≡ 0 → ⊥) → Err x ≡ refused_by (downstream_words p).refusal
unfolding downstream_words
read-bad p x e z = refuses-by _ x (rw e refl) (ne_eqb _ _ z)

-- the ladder: s is what checking the reader's refusal gave
module _ (r : Receiver) (l : List ℕ) (p : Result Downstream Refusal) where
  pub for-read : (s w : Result ⊤ Refusal) (x : Refusal) → s ≡ refused_by (downstream_words p).refusal → s ≡ Err x → w ≡ Err x
      → w ≡ refused_by (refusal_read r l (downstream_words p))
  unfolding refusal_read
  for-read s w x e d f =
      let z = has-ground s x _ e d in
      rw (ne_eqb _ _ z) (handed-by s w x _ e d f)

  module _ (z : (downstream_words p).refusal ≡ 0) (b : Bool) (o : b ≡ other_session r l) where
    pub own-17 : b ≡ true → Err (record { number = 17 }) ≡ refused_by (refusal_read r l (downstream_words p))
    unfolding refusal_read own_refusal
    own-17 f = refuses-by _ _ (rw (z, ← o, f) refl) refl

    pub own-18 : b ≡ false → r.ended ≡ true → Err (record { number = 18 }) ≡ refused_by (refusal_read r l (downstream_words p))
    unfolding refusal_read own_refusal
    own-18 f g = refuses-by _ _ (rw (z, ← o, f, g) refl) refl

    module _ (f : b ≡ false) (g : r.ended ≡ false) (low : Bool) (h : low ≡ below_read r (downstream_words p)) where
      pub own-20 : low ≡ true → Err (record { number = 20 }) ≡ refused_by (refusal_read r l (downstream_words p))
      unfolding refusal_read own_refusal
      own-20 i = refuses-by _ _ (rw (← h, z, ← o, f, g, i) refl) refl

      pub own-0 : low ≡ false → Ok tt ≡ refused_by (refusal_read r l (downstream_words p))
      unfolding refusal_read own_refusal
      own-0 i = passes _ (rw (← h, z, ← o, f, g, i) refl)

-- ---- what the reader finds in l

pub past-16 : (r : Receiver) (l : List ℕ) → refusal_of l ≡ 0 → own_refusal r l (end_below (kind_of l) (number_of l) r.next.0) ≡ refusal_for r l
unfolding refusal_for
past-16 r l e = rw e

-- ---- 17's ground, by the two names

module _ (r : Receiver) (d : List ℕ) where
  pub other_name : (r.session ≡ blank → ⊥) → (take 10 d ≡ r.session → ⊥) → other_session r d ≡ true
  unfolding other_session
  other_name b z = rw (different r.session blank b, different (take 10 d) r.session z)

  pub own_name : (r.session ≡ blank → ⊥) → take 10 d ≡ r.session → other_session r d ≡ false
  unfolding other_session
  own_name b e = rw (different r.session blank b, alike (take 10 d) r.session e)

  pub blank-other : r.session ≡ blank → take 10 d ≡ blank → other_session r d ≡ true
  unfolding other_session
  blank-other b e = rw (alike r.session blank b, alike (take 10 d) blank e)

  pub blank-own : r.session ≡ blank → (take 10 d ≡ blank → ⊥) → other_session r d ≡ false
  unfolding other_session
  blank-own b z = rw (alike r.session blank b, different (take 10 d) blank z)

  pub blank-named : r.session ≡ blank → other_session r d ≡ false → take 10 d ≡ blank → ⊥
  blank-named b o e = true≢false (sym (blank-other b e) ∙ o)

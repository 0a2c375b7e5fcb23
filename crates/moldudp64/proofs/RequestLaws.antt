-- Laws of requests: r is the refusal, n the number, c the count.
use mathlib.Core.Path.{◌≡◌, refl, sym, ◌∙◌}
use mathlib.Core.List.{List, []}
use mathlib.Core.Bool.{Bool, true, false, not}
use Prim.Native.Nat.{ℕ, ◌≤◌}
use native.Mathlib.Omega.{arith}
use lib.ListN.{length, get_or, take, length-take}
use lib.Dec.{eqb}
use borrow.Author.Tests.{eq-eqb, ne_eqb, eqb-true, not-false}
use Rattle.std.specs.Prelude.{Result, Ok, Err, ⊤}
use Rattle.wire.specs.Words.{Case, answer, refused, Injective, refused_by}
use Rattle.wire.proofs.Refusing.{ground-of, has-ground}
use Rattle.wire.specs.declared.refusal.Refusal.{Refusal}
use Rattle.wire.specs.declared.kinds.SequenceNumber.{SequenceNumber}
use Rattle.wire.specs.declared.kinds.MessageCount.{MessageCount}
use Rattle.wire.proofs.Words.{which-of, refusal-of, read_back}
use Rattle.moldudp64.specs.Header.{number_of, count_of}
use Rattle.moldudp64.specs.declared.request.Wanted.{Wanted}
use Rattle.moldudp64.specs.Request.{RequestKind, wanted, request_ground, request_refusal, request_of, request_words, request_session}
use Rattle.moldudp64.proofs.DownstreamLaws.{past-ground}

-- ---- the grounds

pub ground-13 : (n c : ℕ) → n ≡ 0 → 13 ≡ request_ground n c
unfolding request_ground
ground-13 n c z = simp z

pub ground-none : (n c : ℕ) → (n ≡ 0 → ⊥) → c ≡ 0 → 48 ≡ request_ground n c
unfolding request_ground
ground-none n c z e = simp (ne_eqb _ _ z, e)

pub ground-end : (n c : ℕ) → (n ≡ 0 → ⊥) → c ≡ 65535 → 48 ≡ request_ground n c
unfolding request_ground
ground-end n c z e = simp (ne_eqb _ _ z, e)

pub ground-good : (n c : ℕ) → (n ≡ 0 → ⊥) → (c ≡ 0 → ⊥) → (c ≡ 65535 → ⊥) → 0 ≡ request_ground n c
unfolding request_ground
ground-good n c z e f = simp (ne_eqb _ _ z, ne_eqb _ _ e, ne_eqb _ _ f)

pub refusal-47 : (l : List ℕ) → (length l ≡ 20 → ⊥) → 47 ≡ request_refusal l
unfolding request_refusal
refusal-47 l h = simp (ne_eqb _ _ h)

pub refusal-ground : (l : List ℕ) (n c : ℕ) → length l ≡ 20 → n ≡ number_of l → c ≡ count_of l → request_ground n c ≡ request_refusal l
unfolding request_refusal
refusal-ground l n c h e f = rw (eq-eqb _ _ h, ← e, ← f)

-- a request that is not refused has exactly 20 bytes, and no ground
pub request-sound : (l : List ℕ) → request_refusal l ≡ 0 → (length l ≡ 20) × (request_ground (number_of l) (count_of l) ≡ 0)
unfolding request_refusal
request-sound l e =
    let a = past-ground (not (eqb (length l) 20)) _ _ e (omega arith) in
    (eqb-true _ _ (not-false _ a.0), a.1)

pub request-ten : (l : List ℕ) (r : ℕ) → r ≡ request_refusal l → r ≡ 0 → length (take 10 l) ≡ 10
request-ten l r e z = let s = request-sound l (sym e ∙ z) in omega (arith, s.0, length-take 10 l)

-- ---- what the reader answers

request-refused : (l : List ℕ) (r : Refusal) → r.number ≡ request_refusal l → (r.number ≡ 0 → ⊥) → request_words (Err r) ≡ request_of l
unfolding request_of request_words
request-refused l r e z = simp (← e, ne_eqb _ _ z)

pub request-sized : (l : List ℕ) → (length l ≡ 20 → ⊥) → request_words (Err (record { number = 47 })) ≡ request_of l
request-sized l h = request-refused l (record { number = 47 }) (refusal-47 l h) (omega arith)

module _ (l : List ℕ) (n : SequenceNumber) (c : MessageCount) (s : Result ⊤ Refusal) (h : length l ≡ 20) (e : n.0 ≡ number_of l) (f : c.0 ≡ count_of l)
    (g : s ≡ refused_by (request_ground n.0 c.0)) where
  pub request-by : (p : Result Wanted Refusal) (r : Refusal) → s ≡ Err r → p ≡ Err r → request_words p ≡ request_of l
  request-by p r d k =
      let m = ground-of s r _ g d in
      let z = has-ground s r _ g d in
      rw k (request-refused l r (m ∙ refusal-ground l n.0 c.0 h e f) (λ y. z (sym m ∙ y)))

  pub request-wanted : request_ground n.0 c.0 ≡ 0 → request_words (Ok (record { first = n; count = c })) ≡ request_of l
  unfolding request_of request_words
  request-wanted z = let k : request_refusal l ≡ 0 = sym (refusal-ground l n.0 c.0 h e f) ∙ z in rw (k, e, f)

-- the words read back
asked : Case RequestKind → ℕ → List ℕ → Result Wanted Refusal
asked (answer wanted) r vs = Ok (record { first = record { 0 = get_or vs 0 0 }; count = record { 0 = get_or vs 1 0 } })
asked refused r vs = Err (record { number = r })

pub request-tells-apart : Injective request_words
unfolding request_words asked
request-tells-apart = read_back request_words (λ w. asked w.which w.refusal w.values) back
  where
    back : (a : Result Wanted Refusal) → asked (request_words a).which (request_words a).refusal (request_words a).values ≡ a
    back (Ok w) = refl
    back (Err r) = refl

-- ---- the session: p is what the request was read as

said-refusal : (l : List ℕ) → (request_of l).refusal ≡ request_refusal l
unfolding request_of
said-refusal l = go (eqb (request_refusal l) 0) refl
  where
    go : (b : Bool) → eqb (request_refusal l) 0 ≡ b → (request_of l).refusal ≡ request_refusal l
    go true e = rw e (sym (eqb-true _ _ e))
    go false e = rw e

module _ (l : List ℕ) (p : Result Wanted Refusal) (e : request_words p ≡ request_of l) where
  request-well : (w : Wanted) → p ≡ Ok w → request_refusal l ≡ 0
  unfolding request_words
  request-well w f = sym (refusal-of e ∙ said-refusal l) ∙ rw f refl

  request-badly : (r : Refusal) → p ≡ Err r → request_refusal l ≡ 0 → ⊥
  unfolding request_words request_of
  request-badly r f z = let w = which-of (rw (f, z) at e) in let k : ◌≡◌ {A = ℕ} 0 1 = cc in omega arith

  pub request_long : (w : Wanted) → p ≡ Ok w → 20 ≤ length l
  request_long w f = let s = request-sound l (request-well w f) in omega (arith, s.0)

  pub request-no-session : (r : Refusal) → p ≡ Err r → [] ≡ request_session l
  unfolding request_session
  request-no-session r f = simp (ne_eqb _ _ (request-badly r f))

  pub session_of_request : (w : Wanted) → p ≡ Ok w → take 10 l ≡ request_session l
  unfolding request_session
  session_of_request w f = simp (request-well w f)

-- The settings and the request, as the code has them: g is a ground, n a number, c a count, q a request's bytes.
use Prim.Native.Nat.{ℕ, ◌+◌, ◌-◌, ◌≤◌, ◌<◌, min}
use mathlib.Core.List.{List, [], ◌∷◌}
use mathlib.Core.Bool.{Bool, true, false, not}
use mathlib.Core.Path.{◌≡◌, refl, sym, ap, ◌∙◌}
use native.Mathlib.Omega.{arith}
use lib.ListN.{get_or}
use lib.Dec.{ltb, leb, eqb}
use borrow.Author.Tests.{lt-ltb, le-ltb, le-leb, lt-leb, ne_eqb, ltb-true, eqb-true, eqb-false}
use mir.Val.{Fits}
use mir.Syntax.{w64}
use Rattle.wire.specs.declared.refusal.Refusal.{Refusal}
use Rattle.wire.specs.declared.kinds.SequenceNumber.{SequenceNumber}
use Rattle.wire.specs.declared.kinds.MessageCount.{MessageCount}
use Rattle.std.specs.Prelude.{if◌then◌else◌, Result, Ok, Err, ⊤}
use Rattle.wire.specs.Words.{says, refuses, refused_by, refused_words}
use Rattle.wire.specs.Bytes.{same_bytes}
use Rattle.wire.proofs.Words.{which-of, refusal-of, values-of}
use Rattle.wire.proofs.Refusing.{has-ground, handed-by}
use Rattle.moldudp64.specs.Header.{number_of, count_of}
use Rattle.moldudp64.specs.declared.request.Wanted.{Wanted}
use Rattle.moldudp64.specs.Request.{RequestKind, wanted, request_refusal, request_of, request_words, request_session}
use Rattle.packing.specs.Fit.{size_ground}
use Rattle.store.specs.declared.ask.Asked.{Asked}
use Rattle.store.specs.Steps.{setting_ground, is_held, ask_refused, ask_held, ask_from, ask_of}

-- ---- the settings

module _ (first held size : ℕ) where
  setting-size : (size_ground size ≡ 0 → ⊥) → size_ground size ≡ setting_ground first held size
  unfolding setting_ground
  setting-size z = rw (ne_eqb _ _ z)

  pub size_refused : (r : Result ⊤ Refusal) (s : Result ⊤ Refusal) (x : Refusal) → s ≡ refused_by (size_ground size) → s ≡ Err x → r ≡ Err x
      → r ≡ refused_by (setting_ground first held size)
  size_refused r s x e f k = rw (sym (setting-size (has-ground _ _ _ e f))) (handed-by _ _ _ _ e f k)

  module _ (z : size_ground size ≡ 0) where
    pub setting-zero : first ≡ 0 → 19 ≡ setting_ground first held size
    unfolding setting_ground
    setting-zero f = rw (z, f)

    pub setting-run-out : (first ≡ 0 → ⊥) → 18446744073709551615 - first < held → 19 ≡ setting_ground first held size
    unfolding setting_ground
    setting-run-out f h =
        let k : 18446744073709551615 < first + held = omega arith in
        rw (z, ne_eqb _ _ f, lt-ltb _ _ k)

    pub setting-good : (first ≡ 0 → ⊥) → Fits w64 first → held ≤ 18446744073709551615 - first → setting_ground first held size ≡ 0
    unfolding setting_ground
    setting-good f m h =
        let k : first + held ≤ 18446744073709551615 = omega (arith, m.fits) in
        rw (z, ne_eqb _ _ f, le-ltb _ _ k)

-- ---- a number and a count

module _ (first held c : ℕ) (n : SequenceNumber) where
  pub from-below : n.0 < first → Err (record { number = 51 }) ≡ ask_from first held n.0 c
  unfolding ask_from is_held
  from-below h = rw (lt-leb _ _ h)

  pub from_past : first ≤ n.0 → held ≤ n.0 - first → Err (record { number = 51 }) ≡ ask_from first held n.0 c
  unfolding ask_from is_held
  from_past h k = rw (le-leb _ _ h, le-ltb _ _ k)

  pub from-there : first ≤ n.0 → n.0 - first < held → (m : ℕ) → m ≡ min c (held - (n.0 - first))
      → Ok (record { number = n; place = n.0 - first; count = m }) ≡ ask_from first held n.0 c
  unfolding ask_from is_held
  from-there h k m e = rw (le-leb _ _ h, lt-ltb _ _ k, e)

-- ---- what a request says

record SaysNo (q : List ℕ) (r : ℕ) : Type 0 where
  ground : r ≡ request_refusal q
  is_one : request_refusal q ≡ 0 → ⊥

says-no : (q : List ℕ) (r : Refusal) → request_words (Err r) ≡ request_of q → SaysNo q r.number
unfolding request_words request_of
says-no q r e = go (eqb (request_refusal q) 0) refl e
  where
    go : (t : Bool) → eqb (request_refusal q) 0 ≡ t
        → refused_words {K = RequestKind} r ≡ (if t then says wanted (number_of q ∷ count_of q ∷ []) else refuses (request_refusal q)) → SaysNo q r.number
    go true b f = let w = which-of f in let z : ◌≡◌ {A = ℕ} 0 1 = cc in absurd (omega arith)
    go false b f = record { ground = refusal-of f; is_one = eqb-false _ _ b }

record SaysWhat (q : List ℕ) (n c : ℕ) : Type 0 where
  no_ground : request_refusal q ≡ 0
  number : n ≡ number_of q
  count : c ≡ count_of q

says-what : (q : List ℕ) (n : SequenceNumber) (c : MessageCount) → request_words (Ok (record { first = n; count = c })) ≡ request_of q → SaysWhat q n.0 c.0
unfolding request_words request_of
says-what q n c e = go (eqb (request_refusal q) 0) refl e
  where
    go : (t : Bool) → eqb (request_refusal q) 0 ≡ t
        → says wanted (n.0 ∷ c.0 ∷ []) ≡ (if t then says wanted (number_of q ∷ count_of q ∷ []) else refuses (request_refusal q)) → SaysWhat q n.0 c.0
    go true b f =
        let v = values-of f in
        record { no_ground = eqb-true _ _ b; number = ap (λ (l : List ℕ). get_or l 0 0) v; count = ap (λ (l : List ℕ). get_or l 1 0) v }
    go false b f = let w = which-of f in let z : ◌≡◌ {A = ℕ} 0 1 = cc in absurd (omega arith)

module _ (s : List ℕ) (first held : ℕ) (q : List ℕ) (said : Result Wanted Refusal) (e : request_words said ≡ request_of q) (a : Result Asked Refusal) where
  pub read-refused : (r : Refusal) → said ≡ Err r → a ≡ Err r → a ≡ ask_of s first held q
  unfolding ask_of
  read-refused r f k =
      let w = says-no q r (rw f at e) in
      rw (ne_eqb _ _ w.is_one, ← w.ground) k

  module _ (w : Wanted) (b : Bool) (name : List ℕ) (f : said ≡ Ok w) (g : name ≡ request_session q) (h : b ≡ same_bytes name s) where
    pub read-differs : b ≡ false → a ≡ Err (record { number = 53 }) → a ≡ ask_of s first held q
    unfolding ask_of
    read-differs t k =
        let v = says-what q w.first w.count (rw f at e) in
        rw (v.no_ground, ← g, ← h, t) k

    pub read-wanted : b ≡ true → a ≡ ask_from first held w.first.0 w.count.0 → a ≡ ask_of s first held q
    unfolding ask_of
    read-wanted t k =
        let v = says-what q w.first w.count (rw f at e) in
        rw (v.no_ground, ← g, ← h, t, ← v.number, ← v.count) k

-- ---- what is asked of the store is in it

from-within : (first held n c : ℕ) (a : Asked) → Ok a ≡ ask_from first held n c → a.place + a.count ≤ held
unfolding ask_from is_held
from-within first held n c a f = go (leb first n) (ltb (n - first) held) refl f
  where
    go : (t u : Bool) → ltb (n - first) held ≡ u → ◌≡◌ {A = Result Asked Refusal} (Ok a) (if (if t then u else false) then Ok (ask_held first held n c) else ask_refused 51) → a.place + a.count ≤ held
    go true true e g = let h = ltb-true (n - first) held e in let k : a ≡ ask_held first held n c = cc in rw k (omega arith)
    go true false e g = let z : ◌≡◌ {A = ℕ} 0 1 = cc in absurd (omega arith)
    go false u e g = let z : ◌≡◌ {A = ℕ} 0 1 = cc in absurd (omega arith)

pub asked-within : (s : List ℕ) (first held : ℕ) (q : List ℕ) (r : Result Asked Refusal) (a : Asked) → r ≡ ask_of s first held q → r ≡ Ok a → a.place + a.count ≤ held
unfolding ask_of
asked-within s first held q r a e f = go (not (eqb (request_refusal q) 0)) (not (same_bytes (request_session q) s)) (sym f ∙ e)
  where
    go : (t u : Bool) → ◌≡◌ {A = Result Asked Refusal} (Ok a) (if t then ask_refused (request_refusal q) else if u then ask_refused 53 else ask_from first held (number_of q) (count_of q)) → a.place + a.count ≤ held
    go true u g = let z : ◌≡◌ {A = ℕ} 0 1 = cc in absurd (omega arith)
    go false true g = let z : ◌≡◌ {A = ℕ} 0 1 = cc in absurd (omega arith)
    go false false g = from-within first held (number_of q) (count_of q) a g

-- Laws of a datagram's refusal and of what it says: r is its refusal, n its number, c its count, k its count of blocks.
use mathlib.Core.Path.{◌≡◌, refl, ap, sym, ◌∙◌}
use mathlib.Core.List.{List, [], ◌∷◌}
use mathlib.Core.Bool.{Bool, true, false}
use Prim.Native.Nat.{ℕ, zero, suc, ◌+◌, ◌-◌, ◌≤◌, ◌<◌}
use native.Mathlib.Omega.{arith}
use lib.ListN.{length, get_or, take, drop, length-take}
use lib.Seq.{take_all}
use lib.Dec.{ltb, eqb}
use borrow.Author.Tests.{lt-ltb, le-ltb, ne_eqb, ltb-false, eqb-true, eqb-false}
use Rattle.std.specs.Prelude.{if◌then◌else◌, Result, Ok, Err, ⊤}
use Rattle.wire.specs.Words.{Case, answer, refused, says, refuses, Injective, refused_by}
use Rattle.wire.proofs.Refusing.{ground-of, has-ground}
use Rattle.wire.specs.Bytes.{same_bytes}
use Rattle.wire.specs.declared.refusal.Refusal.{Refusal}
use Rattle.wire.specs.declared.kinds.SequenceNumber.{SequenceNumber}
use Rattle.wire.specs.declared.kinds.MessageCount.{MessageCount}
use Rattle.wire.proofs.Numbers.{part_to_end}
use Rattle.wire.proofs.Words.{which-of, refusal-of, values-of, read_back}
use Rattle.moldudp64.specs.Header.{number_of, count_of}
use Rattle.moldudp64.specs.Blocks.{blocks_refusal, messages}
use Rattle.moldudp64.specs.declared.downstream.Downstream.{Downstream}
use Rattle.moldudp64.specs.declared.downstream.Downstream.TheVariants.{Data, Heartbeat, EndOfSession}
use Rattle.moldudp64.specs.Downstream.{DownstreamKind, data_packet, heartbeat, end_of_session, kind_of_count, kind_of, block_count_of, block_count, values_of, refusal_of, downstream_of, downstream_words, downstream_session, messages_of}
use Rattle.moldudp64.proofs.BlockLaws.{length-messages}

-- ---- kinds and blocks

pub kind-heartbeat : (c : ℕ) → c ≡ 0 → kind_of_count c ≡ heartbeat
unfolding kind_of_count
kind-heartbeat c z = simp z

pub kind-end : (c : ℕ) → c ≡ 65535 → kind_of_count c ≡ end_of_session
unfolding kind_of_count
kind-end c z = simp z

pub kind-data : (c : ℕ) → (c ≡ 0 → ⊥) → (c ≡ 65535 → ⊥) → kind_of_count c ≡ data_packet
unfolding kind_of_count
kind-data c z f = simp (ne_eqb _ _ z, ne_eqb _ _ f)

-- how many blocks follow a header with the count c

pub none-follow : (c : ℕ) → c ≡ 65535 → 0 ≡ block_count_of (kind_of_count c) c
none-follow c z = rw (kind-end c z)

pub all-follow : (c : ℕ) → (c ≡ 65535 → ⊥) → c ≡ block_count_of (kind_of_count c) c
all-follow zero z = rw (kind-heartbeat 0 refl)
all-follow (suc c) z = rw (kind-data (suc c) (omega arith) z)

blocks-of : (l : List ℕ) (c k : ℕ) → c ≡ count_of l → k ≡ block_count_of (kind_of_count c) c → k ≡ block_count l
unfolding block_count
blocks-of l c k e f = rw (← e) f

pub count-end : (c : ℕ) (l : List ℕ) → c ≡ count_of l → c ≡ 65535 → 0 ≡ block_count l
count-end c l e z = blocks-of l c 0 e (none-follow c z)

pub count-blocks : (c : ℕ) (l : List ℕ) → c ≡ count_of l → (c ≡ 65535 → ⊥) → c ≡ block_count l
count-blocks c l e z = blocks-of l c c e (all-follow c z)

-- ---- the ladder

pub refusal-11 : (l : List ℕ) → length l < 20 → 11 ≡ refusal_of l
unfolding refusal_of
refusal-11 l h = simp (lt-ltb _ _ h)

pub refusal-12 : (l : List ℕ) → 20 ≤ length l → 65507 < length l → 12 ≡ refusal_of l
unfolding refusal_of
refusal-12 l h i = simp (le-ltb _ _ h, lt-ltb _ _ i)

pub refusal-13 : (l : List ℕ) (n : ℕ) → 20 ≤ length l → length l ≤ 65507 → n ≡ number_of l → n ≡ 0 → 13 ≡ refusal_of l
unfolding refusal_of
refusal-13 l n h i e z = simp (le-ltb _ _ h, le-ltb _ _ i, ← e, z)

pub refusal-14 : (l : List ℕ) (n c k : ℕ) → 20 ≤ length l → length l ≤ 65507 → n ≡ number_of l → (n ≡ 0 → ⊥) → c ≡ count_of l
    → k ≡ block_count_of (kind_of_count c) c → 18446744073709551615 < n + k → 14 ≡ refusal_of l
unfolding refusal_of
refusal-14 l n c k h i e z d f j = simp (le-ltb _ _ h, le-ltb _ _ i, ← e, ne_eqb _ _ z, ← blocks-of l c k d f, lt-ltb _ _ j)

pub refusal-walk : (l : List ℕ) (n c k r : ℕ) → 20 ≤ length l → length l ≤ 65507 → n ≡ number_of l → (n ≡ 0 → ⊥) → c ≡ count_of l
    → k ≡ block_count_of (kind_of_count c) c → n + k ≤ 18446744073709551615 → r ≡ blocks_refusal k (take (length l - 20) (drop 20 l)) → r ≡ refusal_of l
unfolding refusal_of
refusal-walk l n c k r h i e z d f j w =
    rw w
    (rw (part_to_end 20 l) (simp (le-ltb _ _ h, le-ltb _ _ i, ← e, ne_eqb _ _ z, ← blocks-of l c k d f, le-ltb _ _ j)))

-- ---- a datagram that is not refused: none of the ladder's grounds applies

-- a choice that answers 0 took neither its first side nor a further refusal
pub past-ground : (b : Bool) (x y : ℕ) → if b then x else y ≡ 0 → 0 < x → (b ≡ false) × (y ≡ 0)
past-ground true x y e h = absurd (omega arith)
past-ground false x y e h = (refl, e)

pub record Sound (l : List ℕ) : Type 0 where
  pub long : 20 ≤ length l
  pub short : length l ≤ 65507
  pub number-good : number_of l ≡ 0 → ⊥
  pub numbers_fit : number_of l + block_count l ≤ 18446744073709551615
  pub blocks-good : blocks_refusal (block_count l) (drop 20 l) ≡ 0

pub sound : (l : List ℕ) → refusal_of l ≡ 0 → Sound l
unfolding refusal_of
sound l e =
    let a = past-ground (ltb (length l) 20) _ _ e (omega arith) in
    let b = past-ground (ltb 65507 (length l)) _ _ a.1 (omega arith) in
    let c = past-ground (eqb (number_of l) 0) _ _ b.1 (omega arith) in
    let d = past-ground (ltb 18446744073709551615 (number_of l + block_count l)) _ _ c.1 (omega arith) in
    record {
      long = ltb-false _ _ a.0;
      short = ltb-false _ _ b.0;
      number-good = eqb-false _ _ c.0;
      numbers_fit = ltb-false _ _ d.0;
      blocks-good = d.1;
    }

-- and where none applies, it is not refused
pub accepted : (l : List ℕ) → Sound l → refusal_of l ≡ 0
unfolding refusal_of
accepted l s =
    simp (le-ltb _ _ s.long, le-ltb _ _ s.short, ne_eqb _ _ s.number-good, le-ltb _ _ s.numbers_fit, s.blocks-good)

-- ---- what the reader answers

pub read-refused : (l : List ℕ) (r : Refusal) → r.number ≡ refusal_of l → (r.number ≡ 0 → ⊥) → downstream_words (Err r) ≡ downstream_of l
unfolding downstream_of downstream_words
read-refused l r e z = simp (← e, ne_eqb _ _ z)

pub read-11 : (l : List ℕ) → length l < 20 → downstream_words (Err (record { number = 11 })) ≡ downstream_of l
read-11 l h = read-refused l (record { number = 11 }) (refusal-11 l h) (omega arith)

pub read-12 : (l : List ℕ) → 20 ≤ length l → 65507 < length l → downstream_words (Err (record { number = 12 })) ≡ downstream_of l
read-12 l h i = read-refused l (record { number = 12 }) (refusal-12 l h i) (omega arith)

pub read-by : (l : List ℕ) (s : Result ⊤ Refusal) (p : Result Downstream Refusal) (r : Refusal) → s ≡ refused_by (refusal_of l) → s ≡ Err r → p ≡ Err r
    → downstream_words p ≡ downstream_of l
read-by l s p r e d f =
    let g = ground-of s r _ e d in
    let z = has-ground s r _ e d in
    rw f (read-refused l r g (λ k. z (sym g ∙ k)))

module _ (l : List ℕ) (n : SequenceNumber) (c : MessageCount) (z : refusal_of l ≡ 0) (f : n.0 ≡ number_of l) (g : c.0 ≡ count_of l) where
  pub read-heartbeat : c.0 ≡ 0 → downstream_words (Ok (Heartbeat n)) ≡ downstream_of l
  unfolding downstream_of downstream_words
  read-heartbeat h = rw (z, ← g, kind-heartbeat c.0 h, f)

  pub read-end : c.0 ≡ 65535 → downstream_words (Ok (EndOfSession n)) ≡ downstream_of l
  unfolding downstream_of downstream_words
  read-end h = rw (z, ← g, kind-end c.0 h, f)

  pub read-data : (c.0 ≡ 0 → ⊥) → (c.0 ≡ 65535 → ⊥) → downstream_words (Ok (Data n c)) ≡ downstream_of l
  unfolding downstream_of downstream_words
  read-data h i = rw (z, ← g, kind-data c.0 h i, f, g)

-- the words read back
answered : Case DownstreamKind → ℕ → List ℕ → Result Downstream Refusal
answered (answer data_packet) r vs = Ok (Data (record { 0 = get_or vs 0 0 }) (record { 0 = get_or vs 1 0 }))
answered (answer heartbeat) r vs = Ok (Heartbeat (record { 0 = get_or vs 0 0 }))
answered (answer end_of_session) r vs = Ok (EndOfSession (record { 0 = get_or vs 0 0 }))
answered refused r vs = Err (record { number = r })

pub tells_apart : Injective downstream_words
unfolding downstream_words answered
tells_apart = read_back downstream_words (λ w. answered w.which w.refusal w.values) back
  where
    back : (a : Result Downstream Refusal) → answered (downstream_words a).which (downstream_words a).refusal (downstream_words a).values ≡ a
    back (Ok (Data n c)) = refl
    back (Ok (Heartbeat n)) = refl
    back (Ok (EndOfSession n)) = refl
    back (Err r) = refl

-- ---- the refusal in what was read

pub no_refusal : (d : Downstream) → (downstream_words (Ok d)).refusal ≡ 0
unfolding downstream_words
no_refusal (Data n c) = refl
no_refusal (Heartbeat n) = refl
no_refusal (EndOfSession n) = refl

said-refusal : (l : List ℕ) → (downstream_of l).refusal ≡ refusal_of l
unfolding downstream_of
said-refusal l = go (eqb (refusal_of l) 0) refl
  where
    go : (b : Bool) → eqb (refusal_of l) 0 ≡ b → (downstream_of l).refusal ≡ refusal_of l
    go true e = rw e (sym (eqb-true _ _ e))
    go false e = rw e

pub refusal-found : (l : List ℕ) (p : Result Downstream Refusal) (r : ℕ) → r ≡ (downstream_words p).refusal → downstream_words p ≡ downstream_of l → r ≡ refusal_of l
refusal-found l p r e f = e ∙ refusal-of f ∙ said-refusal l

-- ---- the session and the messages

refused-not : (l : List ℕ) (r : ℕ) → downstream_of l ≡ refuses r → refusal_of l ≡ 0 → ⊥
unfolding downstream_of
refused-not l r e z = let w = which-of (rw z at e) in let k : ◌≡◌ {A = ℕ} 0 1 = cc in omega arith

-- what was read tells of the datagram: p is what it was read as
module _ (l : List ℕ) (p : Result Downstream Refusal) (e : downstream_words p ≡ downstream_of l) where
  pub read_well : (d : Downstream) → p ≡ Ok d → refusal_of l ≡ 0
  read_well d f = sym (refusal-found l p _ refl e) ∙ ap (λ (q : Result Downstream Refusal). (downstream_words q).refusal) f ∙ no_refusal d

  pub read-badly : (r : Refusal) → p ≡ Err r → refusal_of l ≡ 0 → ⊥
  unfolding downstream_words
  read-badly r f z = refused-not l r.number (sym e ∙ rw f refl) z

  pub read_long : (d : Downstream) → p ≡ Ok d → 20 ≤ length l
  read_long d f = (sound l (read_well d f)).long

  pub session-refused : (r : Refusal) → p ≡ Err r → [] ≡ downstream_session l
  unfolding downstream_session
  session-refused r f = simp (ne_eqb _ _ (read-badly r f))

  pub session-read : (d : Downstream) → p ≡ Ok d → take 10 l ≡ downstream_session l
  unfolding downstream_session
  session-read d f = simp (read_well d f)

-- a session is at most ten bytes, so its first ten are all of it
short-session : (l : List ℕ) → length (downstream_session l) ≤ 10
unfolding downstream_session
short-session l = go (eqb (refusal_of l) 0)
  where
    go : (b : Bool) → length (if b then take 10 l else []) ≤ 10
    go true = omega (arith, length-take 10 l)
    go false = omega arith

pub session-ten : (l s m : List ℕ) (b : Bool) → s ≡ downstream_session l → b ≡ same_bytes (take 10 (drop 0 s)) m → b ≡ same_bytes (downstream_session l) m
session-ten l s m b e f = f ∙ ap (λ (t : List ℕ). same_bytes t m) (take_all 10 s (let h = short-session l in omega (arith, ap length e)) ∙ e)

pub messages-refused : (l : List ℕ) (r : ℕ) → r ≡ refusal_of l → (r ≡ 0 → ⊥) → messages_of l ≡ []
unfolding messages_of
messages-refused l r e z = simp (← e, ne_eqb _ _ z)

pub messages-sound : (l : List ℕ) → refusal_of l ≡ 0 → messages_of l ≡ messages (block_count l) (drop 20 l)
unfolding messages_of
messages-sound l e = simp e

pub count-sound : (l : List ℕ) → refusal_of l ≡ 0 → length (messages_of l) ≡ block_count l
count-sound l e = ap length (messages-sound l e) ∙ length-messages (block_count l) (drop 20 l)

-- ---- what the words say of the datagram

pub record IsData (l : List ℕ) (n c : ℕ) : Type 0 where
  pub well : refusal_of l ≡ 0
  pub kind : kind_of l ≡ data_packet
  pub first : n ≡ number_of l
  pub count : c ≡ count_of l
  pub blocks : block_count l ≡ c

-- a refusal says no kind
pub kind-read : (l : List ℕ) (k : DownstreamKind) (vs : List ℕ) → downstream_of l ≡ says k vs → (refusal_of l ≡ 0) × (kind_of l ≡ k)
unfolding downstream_of
kind-read l k vs e = go (eqb (refusal_of l) 0) refl e
  where
    go : (b : Bool) → eqb (refusal_of l) 0 ≡ b → if b then says (kind_of l) (values_of (kind_of l) l) else refuses (refusal_of l) ≡ says k vs
        → (refusal_of l ≡ 0) × (kind_of l ≡ k)
    go true d f = (eqb-true _ _ d, let w = which-of f in cc)
    go false d f = let w = which-of f in let z : ◌≡◌ {A = ℕ} 0 1 = cc in absurd (omega arith)

-- what a datagram that is not refused says
pub said : (l : List ℕ) → refusal_of l ≡ 0 → downstream_of l ≡ says (kind_of l) (values_of (kind_of l) l)
unfolding downstream_of
said l e = simp e

-- and a datagram that is not refused says one
pub refusal-read : (l : List ℕ) (r : ℕ) → downstream_of l ≡ refuses r → refusal_of l ≡ 0 → ⊥
refusal-read l r e z = let w = which-of (sym (said l z) ∙ e) in let k : ◌≡◌ {A = ℕ} 0 1 = cc in omega arith

pub data_read : (l : List ℕ) (n c : ℕ) → downstream_of l ≡ says data_packet (n ∷ c ∷ []) → IsData l n c
unfolding block_count
data_read l n c e =
    let s = kind-read l data_packet (n ∷ c ∷ []) e in
    let f = sym (said l s.0) ∙ e in
    let k : kind_of l ≡ data_packet = s.1 in
    let v : number_of l ∷ count_of l ∷ [] ≡ n ∷ c ∷ [] = ap (λ (x : DownstreamKind). values_of x l) (sym k) ∙ values-of f in
    let p : number_of l ≡ n = cc in
    let q : count_of l ≡ c = cc in
    record { well = s.0; kind = k; first = sym p; count = sym q; blocks = ap (λ (x : DownstreamKind). block_count_of x (count_of l)) k ∙ q }

-- the number of a refusal, and the first value of a kind
pub refused-number : (l : List ℕ) (r : ℕ) → downstream_of l ≡ refuses r → refusal_of l ≡ r
unfolding downstream_of
refused-number l r e = go (eqb (refusal_of l) 0) refl e
  where
    go : (b : Bool) → eqb (refusal_of l) 0 ≡ b → if b then says (kind_of l) (values_of (kind_of l) l) else refuses (refusal_of l) ≡ refuses r → refusal_of l ≡ r
    go true d f = let w = which-of f in let z : ◌≡◌ {A = ℕ} 0 1 = cc in absurd (omega arith)
    go false d f = refusal-of f

first-value : (k : DownstreamKind) (l : List ℕ) (n : ℕ) (vs : List ℕ) → values_of k l ≡ n ∷ vs → number_of l ≡ n
first-value data_packet l n vs e = cc
first-value heartbeat l n vs e = cc
first-value end_of_session l n vs e = cc

pub number_read : (l : List ℕ) (k : DownstreamKind) (n : ℕ) (vs : List ℕ) → downstream_of l ≡ says k (n ∷ vs) → number_of l ≡ n
number_read l k n vs e =
    let s = kind-read l k (n ∷ vs) e in
    first-value (kind_of l) l n vs (values-of (sym (said l s.0) ∙ e))

-- the blocks of a kind
pub kind-blocks : (l : List ℕ) (k : DownstreamKind) → kind_of l ≡ k → block_count l ≡ block_count_of k (count_of l)
unfolding block_count
kind-blocks l k e = ap (λ (x : DownstreamKind). block_count_of x (count_of l)) e

pub no_blocks : (l : List ℕ) (k : DownstreamKind) → kind_of l ≡ k → block_count_of k (count_of l) ≡ 0 → block_count l ≡ 0
no_blocks l k e f = kind-blocks l k e ∙ f

pub sound-ten : (l : List ℕ) (r : ℕ) → r ≡ refusal_of l → r ≡ 0 → length (take 10 l) ≡ 10
sound-ten l r e z = let h = (sound l (sym e ∙ z)).long in omega (arith, length-take 10 l)

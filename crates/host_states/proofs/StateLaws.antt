-- The first byte of a state, and fields that are laid one behind the other and read back.
use Prim.Native.Nat.{ℕ, ◌+◌, ◌^◌, ◌≤◌, ◌<◌}
use mathlib.Core.List.{List, [], ◌∷◌, ◌++◌}
use mathlib.Core.Bool.{Bool, true, false}
use mathlib.Core.Path.{◌≡◌, refl, ap, sym, ◌∙◌}
use native.Mathlib.Omega.{arith}
use lib.ListN.{length, get_or, take, drop, length-append, length-drop, take-append-drop}
use lib.Seq.{take_at, take-add, drop_at, get_or-drop, length-take-le}
use lib.Dec.{ltb, eqb}
use borrow.Author.Tests.{eq-eqb, ne_eqb, le-ltb, lt-ltb}
use Rattle.std.specs.Prelude.{if◌then◌else◌}
use Rattle.wire.specs.Bounds.{session_size}
use Rattle.wire.specs.Refusals.{output_short}
use Rattle.wire.specs.Output.{put}
use Rattle.wire.specs.Parts.{first_bytes}
use Rattle.wire.proofs.PartLaws.{name-ten}
use Rattle.wire.proofs.Outputs.{put-put, put-room, put-none, length-put}
use Rattle.wire.proofs.PartLaws.{first-there}
use Rattle.host_answers.specs.Answers.{or_else, short}
use Rattle.host_answers.proofs.AnswerLaws.{or-first, rung-short, rung-none, has_room}
use Rattle.host_states.specs.Little.{little, little_bytes}
use Rattle.host_states.specs.States.{is_open, open_byte, Keeps, Lays, on_code, on_step, StatePromises, front_bytes, front_size, name_at, number_at, name_in}
use Rattle.host_states.proofs.LittleLaws.{little-back, little-drop, length-little}

-- ---- the first byte

pub open-test : (l : List ℕ) (b code : ℕ) → b ≡ get_or l 0 0 → eqb b code ≡ is_open code l
unfolding is_open
open-test l b code e = rw e

pub open-byte-yes : (code : ℕ) (b : Bool) → b ≡ true → code ≡ open_byte code b
unfolding open_byte
open-byte-yes code b e = rw e

pub open-byte-no : (code : ℕ) (b : Bool) → b ≡ false → 0 ≡ open_byte code b
unfolding open_byte
open-byte-no code b e = rw e

-- what is laid there reads back
pub open-back : (code : ℕ) (b : Bool) (l : List ℕ) → 0 < code → is_open code (open_byte code b ∷ l) ≡ b
unfolding is_open open_byte
open-back code true l h = eq-eqb code code refl
open-back code false l h = ne_eqb 0 code (λ e. omega arith)

-- ---- the ladder of a state that is to be kept in n bytes and has k

pub kept-own : (g n k : ℕ) → (g ≡ 0 → ⊥) → g ≡ or_else g (short (ltb n k))
kept-own g n k e = or-first g (short (ltb n k)) e

pub kept-short : (g n k : ℕ) → g ≡ 0 → n < k → output_short ≡ or_else g (short (ltb n k))
kept-short g n k e h = rung-short g (ltb n k) e (lt-ltb n k h)

pub kept-zero : (g n k : ℕ) → g ≡ 0 → k ≤ n → 0 ≡ or_else g (short (ltb n k))
kept-zero g n k e h = rung-none g (ltb n k) e (le-ltb n k h)

-- ---- kept

module _ {S : Type 0} (l : List ℕ) (size : ℕ) (reads : List ℕ → S) (bs : List ℕ) (x : S) (f : length bs ≡ size) where
  -- a refusal, and a state without room
  pub keeps-not : (code : ℕ) → (code ≡ 0 → ⊥) → Keeps (on_code code) l l size reads bs x
  keeps-not code z = rw (ne_eqb code 0 z) (record { fits = f; leaves = refl; reads_back = λ e _. absurd (differ e) })
    where
      differ : false ≡ true → ⊥
      differ e = let y : ◌≡◌ {A = ℕ} 0 1 = cc in omega arith

  pub keeps-laid : (code : ℕ) (m : List ℕ) → code ≡ 0 → Lays l m reads bs x → Keeps (on_code code) l m size reads bs x
  keeps-laid code m z p = rw (eq-eqb code 0 z) (record { fits = f; leaves = p.laid; reads_back = λ _ _. p.back })

-- a code of 0 says that there is room
pub code-room : (r code n k : ℕ) → r ≡ or_else code (short (ltb n k)) → r ≡ 0 → k ≤ n
code-room r code n k e z = has_room r code n k e z

-- a step keeps by its code where it took something, and else not at all
module _ {S : Type 0} {l : List ℕ} {size : ℕ} {reads : List ℕ → S} {bs : List ℕ} {x : S} where
  pub keeps-step : {m : List ℕ} (code taken : ℕ) → (taken ≡ 0 → ⊥) → Keeps (on_code code) l m size reads bs x → Keeps (on_step code taken) l m size reads bs x
  unfolding on_step
  keeps-step {m} code taken z k = rw (ne_eqb taken 0 z) (go (eqb code 0) k)
    where
      go : (b : Bool) → Keeps b l m size reads bs x → Keeps (if b then true else false) l m size reads bs x
      go true k = k
      go false k = k

  pub keeps-more : (code taken : ℕ) → taken ≡ 0 → length bs ≡ size → Keeps (on_step code taken) l l size reads bs x
  unfolding on_step
  keeps-more code taken z f = rw (eq-eqb taken 0 z) (go (eqb code 0))
    where
      none : Keeps false l l size reads bs x
      none = record { fits = f; leaves = refl; reads_back = λ e _. absurd (differ e) }
        where
          differ : false ≡ true → ⊥
          differ e = let y : ◌≡◌ {A = ℕ} 0 1 = cc in omega arith

      go : (b : Bool) → Keeps (if b then false else false) l l size reads bs x
      go true = none
      go false = none

-- ---- laid

-- what was laid stands in front
pub laid-front : (l bs : List ℕ) → length bs ≤ length l → put l 0 bs ≡ bs ++ drop (length bs) l
laid-front l bs h = put-room l 0 bs (omega arith) ∙ rw (zero-plus (length bs))
  where
    zero-plus : (n : ℕ) → 0 + n ≡ n
    zero-plus n = omega arith

-- b behind a is both at once
pub put-behind : (l l₁ l₂ a b : List ℕ) (at k : ℕ) → at + length a ≡ k → k + length b ≤ length l → l₁ ≡ put l at a → l₂ ≡ put l₁ k b → l₂ ≡ put l at (a ++ b)
put-behind l l₁ l₂ a b at k e h p q = rw (q, p) (rw e at (put-put l at a b (omega arith)))

pub put_next : (l l₁ l₂ a b : List ℕ) (k : ℕ) → length a ≡ k → k + length b ≤ length l → l₁ ≡ put l 0 a → l₂ ≡ put l₁ k b → l₂ ≡ put l 0 (a ++ b)
put_next l l₁ l₂ a b k e h p q = put-behind l l₁ l₂ a b 0 k (omega arith) h p q

-- the first byte, a name, and a number behind it
pub length_front : (b : ℕ) (name : List ℕ) (n : ℕ) → length name ≡ session_size → length (front_bytes b name n) ≡ front_size
unfolding front_bytes
length_front b name n ten = omega (arith, length-append name (little_bytes 8 n), length-little 8 n)

pub front-put : (l l₀ l₁ l₂ name : List ℕ) (b n : ℕ) → front_size ≤ length l → length name ≡ session_size → l₀ ≡ put l 0 (b ∷ [])
    → l₁ ≡ put l₀ name_at name → l₂ ≡ put l₁ number_at (little_bytes 8 n)
    → l₂ ≡ put l 0 (front_bytes b name n)
unfolding front_bytes
front-put l l₀ l₁ l₂ name b n h ten o p q =
    let a = put_next l l₀ l₁ (b ∷ []) name 1 refl (omega arith) o p in
    put_next l l₁ l₂ (b ∷ name) (little_bytes 8 n) 11 (omega arith) (omega (arith, length-little 8 n)) a q

-- of a layout: keeping is `Keeps` of its bytes
pub state-promises : {S : Type 0} (size : ℕ) (reads : List ℕ → S) (bytes_of : S → List ℕ)
    → StatePromises (λ lays l m x. Keeps lays l m size reads (bytes_of x) x) size bytes_of
state-promises size reads bytes_of =
    record {
      stays = λ l m x k. k.leaves;
      stands = λ l m x k h. k.leaves ∙ laid-front l (bytes_of x) (omega (arith, k.fits)) ∙ rw k.fits;
    }

pub front-none : (l name : List ℕ) (b n : ℕ) → length l < front_size → length name ≡ session_size → l ≡ put l 0 (front_bytes b name n)
front-none l name b n h ten = sym (put-none l 0 (front_bytes b name n) (omega (arith, length_front b name n ten)))

-- ---- read back

-- past a field of k bytes
module _ (a b : List ℕ) (k : ℕ) (e : length a ≡ k) where
  pub past-field : drop k (a ++ b) ≡ b
  past-field = drop_at a b k e

  pub little-past-field : (at n : ℕ) → little (a ++ b) (k + at) n ≡ little b at n
  little-past-field at n = sym (little-drop k (a ++ b) at n) ∙ ap (λ (x : List ℕ). little x at n) past-field

  pub byte-past-field : (at : ℕ) → get_or (a ++ b) (k + at) 0 ≡ get_or b at 0
  byte-past-field at = sym (get_or-drop k (a ++ b) at 0) ∙ ap (λ (x : List ℕ). get_or x at 0) past-field

pub little-in-front : (n v : ℕ) (b : List ℕ) → v < 256 ^ n → little (little_bytes n v ++ b) 0 n ≡ v
little-in-front n v b h = little-back n v h [] b 0 refl

pub name-in-front : (k : ℕ) (a b : List ℕ) → length a ≡ k → first_bytes k (a ++ b) ≡ a
unfolding first_bytes
name-in-front k a b e = rw (le-ltb (length (a ++ b)) k (omega (arith, length-append a b))) (take_at a b k e)

-- bytes that stand there already
put_same : (l : List ℕ) (at n : ℕ) → at + n ≤ length l → put l at (take n (drop at l)) ≡ l
put_same l at n h =
    let d = length-drop at l in
    let k : length (take n (drop at l)) ≡ n = length-take-le n (drop at l) (omega arith) in
    put-room l at (take n (drop at l)) (omega arith)
    ∙ rw (k, ← take-add at n l) (take-append-drop (at + n) l)

pub front_kept : (l l₀ l₁ : List ℕ) (b n : ℕ) → front_size ≤ length l → l₀ ≡ put l 0 (b ∷ []) → l₁ ≡ put l₀ number_at (little_bytes 8 n)
    → l₁ ≡ put l 0 (front_bytes b (name_in l) n)
front_kept l l₀ l₁ b n h o q =
    let d = length-drop 1 l in
    let behind : drop 1 l₀ ≡ drop 1 l = rw (o, laid-front l (b ∷ []) (omega arith)) in
    let k : length l₀ ≡ length l = ap length o ∙ length-put l 0 (b ∷ []) in
    let stays : l₀ ≡ put l₀ name_at (name_in l) = sym (rw (first-there 10 (drop 1 l) (omega arith), ← behind) (put_same l₀ 1 10 (omega arith))) in
    front-put l l₀ l₀ l₁ (name_in l) b n h (name-ten (drop 1 l)) o stays q

pub front-kept-none : (l : List ℕ) (b n : ℕ) → length l < front_size → l ≡ put l 0 (front_bytes b (name_in l) n)
front-kept-none l b n h = front-none l (name_in l) b n h (name-ten (drop 1 l))

-- A receiver laid, and read back.
use Prim.Native.Nat.{ℕ, ◌^◌, ◌≤◌, ◌<◌, ◌-◌}
use mathlib.Core.List.{List, [], ◌∷◌, ◌++◌, append_assoc}
use mathlib.Core.Bool.{Bool, true, false, not}
use mathlib.Core.Path.{◌≡◌, refl, ap, ◌∙◌}
use native.Mathlib.Omega.{arith}
use lib.ListN.{length, take, drop, length-append}
use borrow.Author.Tests.{lt-ltb, le-ltb}
use Rattle.wire.specs.Bounds.{session_size}
use Rattle.wire.specs.Output.{put}
use Rattle.wire.specs.Parts.{first_bytes}
use Rattle.wire.proofs.Cases.{below_or_not}
use Rattle.wire.proofs.Numbers.{part_to_end}
use Rattle.wire.proofs.Outputs.{length-put}
use Rattle.receiver.specs.declared.receiver.Receiver.{Receiver}
use Rattle.receiver.specs.Receiver.{receiver, refused_receiver}
use Rattle.host_states.specs.Little.{little, little_bytes}
use Rattle.host_states.specs.States.{receiver_code, is_open, open_byte, Lays, on_code, StatePromises, front_bytes}
use Rattle.host_states.proofs.LittleLaws.{length-little}
use Rattle.wire.proofs.PartLaws.{name-ten}
use Rattle.host_states.proofs.StateLaws.{open-back, put_next, length_front, keeps-not, keeps-laid, laid-front, past-field, little-past-field, little-in-front, name-in-front, state-promises}
use Rattle.host_receiver.specs.Receiver.{receiver_size, receiver_bytes, receiver_in, KeepsReceiver}

-- ---- read

pub receiver-short : (l : List ℕ) → length l < receiver_size → refused_receiver ≡ receiver_in l
unfolding receiver_in
receiver-short l h = rw (lt-ltb (length l) receiver_size h)

pub receiver-read : (l name : List ℕ) (n limit : ℕ) (b : Bool) → receiver_size ≤ length l → name ≡ first_bytes session_size (take (length l - 1) (drop 1 l))
    → n ≡ little l 11 8 → limit ≡ little l 19 2
    → b ≡ is_open receiver_code l → receiver name n limit (not b) ≡ receiver_in l
unfolding receiver_in
receiver-read l name n limit b h p q r s = rw (le-ltb (length l) receiver_size h, s, r, q, p, part_to_end 1 l)

-- the name stands behind the code
pub name-within : (l : List ℕ) → receiver_size ≤ length l → 1 ≤ length l
name-within l h = omega arith

-- one that was read has a name of ten bytes
pub receiver-ten : (l : List ℕ) → length (receiver_in l).session ≡ session_size
unfolding receiver_in
receiver-ten l =
    below_or_not _ (length l) receiver_size (λ h. rw (lt-ltb (length l) receiver_size h) refl)
    (λ h. rw (le-ltb (length l) receiver_size h) (name-ten (drop 1 l)))

-- ---- laid

pub length-receiver : (r : Receiver) → length r.session ≡ session_size → length (receiver_bytes r) ≡ receiver_size
unfolding receiver_bytes
length-receiver r ten =
    omega (
      arith,
      length_front (open_byte receiver_code (not r.ended)) r.session r.next.0 ten,
      length-append (front_bytes (open_byte receiver_code (not r.ended)) r.session r.next.0) (little_bytes 2 r.limit.0),
      length-little 2 r.limit.0,
    )

not-not : (b : Bool) → not (not b) ≡ b
not-not true = refl
not-not false = refl

module _ (name : List ℕ) (n limit : ℕ) (ended : Bool) (ten : length name ≡ session_size) where
  abbrev first : ℕ
  first = open_byte receiver_code (not ended)

  -- its fields, one behind the other
  receiver-fields : (b : List ℕ) → receiver_bytes (receiver name n limit ended) ++ b ≡ (first ∷ []) ++ (name ++ (little_bytes 8 n ++ (little_bytes 2 limit ++ b)))
  unfolding receiver_bytes front_bytes
  receiver-fields b = simp append_assoc

  receiver-ended : (b : List ℕ) → not (is_open receiver_code ((first ∷ []) ++ b)) ≡ ended
  receiver-ended b = rw (open-back receiver_code (not ended) b (omega arith)) (not-not ended)

  -- it is read from them, whatever follows
  pub receiver-back : (l m : List ℕ) → receiver_size ≤ length m → m ≡ receiver_bytes (receiver name n limit ended) ++ l → n < 2 ^ 64 → limit < 2 ^ 16
      → receiver_in m ≡ receiver name n limit ended
  unfolding receiver_in
  receiver-back l m h e u v =
      rw (le-ltb (length m) receiver_size h, e, receiver-fields l, receiver-ended (name ++ (little_bytes 8 n ++ (little_bytes 2 limit ++ l))))
      (rw (
        past-field (first ∷ []) (name ++ (little_bytes 8 n ++ (little_bytes 2 limit ++ l))) 1 refl,
        name-in-front session_size name _ ten,
        little-past-field (first ∷ []) _ 1 refl 10 8,
        little-past-field name _ 10 ten 0 8,
        little-in-front 8 n _ u,
        little-past-field (first ∷ []) _ 1 refl 18 2,
        little-past-field name _ 10 ten 8 2,
        little-past-field (little_bytes 8 n) _ 8 (length-little 8 n) 0 2,
        little-in-front 2 limit _ v,
      ))

  pub receiver-lays : (l l₁ l₂ : List ℕ) (b : ℕ) → receiver_size ≤ length l → b ≡ open_byte receiver_code (not ended) → l₁ ≡ put l 0 (front_bytes b name n)
      → l₂ ≡ put l₁ 19 (little_bytes 2 limit) → n < 2 ^ 64 → limit < 2 ^ 16
      → Lays l l₂ receiver_in (receiver_bytes (receiver name n limit ended)) (receiver name n limit ended)
  unfolding receiver_bytes
  receiver-lays l l₁ l₂ b h e p q u v =
      let a = put_next l l₁ l₂ (front_bytes first name n) (little_bytes 2 limit) 19 (length_front first name n ten) (omega (arith, length-little 2 limit)) (rw e at p) q in
      let k : length l₂ ≡ length l = ap length a ∙ length-put l 0 _ in
      record { laid = a; back = receiver-back _ l₂ (omega arith) (a ∙ laid-front l _ (omega (arith, length-receiver (receiver name n limit ended) ten))) u v }

-- ---- kept

module _ (x : Receiver) (l : List ℕ) (r : ℕ) (ten : length x.session ≡ session_size) where
  pub receiver-not : (r ≡ 0 → ⊥) → KeepsReceiver (on_code r) l l x
  receiver-not z = keeps-not l receiver_size receiver_in _ _ (length-receiver x ten) r z

  pub receiver-laid : (m : List ℕ) → r ≡ 0 → Lays l m receiver_in (receiver_bytes x) x → KeepsReceiver (on_code r) l m x
  receiver-laid m z p = keeps-laid l receiver_size receiver_in _ _ (length-receiver x ten) r m z p

pub receiver-promises : StatePromises KeepsReceiver receiver_size receiver_bytes
receiver-promises = state-promises receiver_size receiver_in receiver_bytes

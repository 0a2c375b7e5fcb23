-- How many messages a datagram delivers: few, and as the code counts them.
use mathlib.Core.Path.{◌≡◌, refl, sym, ◌∙◌}
use mathlib.Core.List.{List, [], ◌∷◌}
use Prim.Native.Nat.{ℕ, zero, suc, ◌+◌, ◌-◌, ◌≤◌, ◌<◌, min, max}
use native.Mathlib.Omega.{arith}
use lib.ListN.{length, drop, length-drop}
use lib.Dec.{eqb}
use Rattle.wire.specs.Words.{answer, says}
use Rattle.wire.specs.declared.refusal.Refusal.{Refusal}
use Rattle.wire.specs.declared.kinds.SequenceNumber.{SequenceNumber}
use Rattle.wire.specs.declared.kinds.MessageCount.{MessageCount}
use Rattle.wire.specs.declared.kinds.MessagePlace.{MessagePlace}
use Rattle.wire.proofs.Words.{which-of, values-of}
use Rattle.moldudp64.specs.Header.{number_of, count_of}
use Rattle.moldudp64.specs.Downstream.{data_packet, block_count}
use Rattle.moldudp64.proofs.BlockLaws.{sound-fit}
use Rattle.moldudp64.proofs.DownstreamLaws.{sound, kind-blocks}
use Rattle.receiver.specs.declared.receiver.Answer.{Answer as Plain}
use Rattle.receiver.specs.declared.receiver.Answer.TheVariants as plain
use Rattle.receiver.specs.Table.{deliver, answer_words}
use Rattle.receiver.specs.Receiver.{answer_of}
use Rattle.early_word.specs.Word.{run, past}
use Rattle.early_holding.specs.declared.holding.EarlyReceiver.{EarlyReceiver}
use Rattle.early_holding.specs.declared.holding.Moved.{Moved}
use Rattle.early_holding.specs.Holding.{Lent, lent, next_of, number_past, move_by, move_to}
use Rattle.early_holding.proofs.HoldingLaws.{either}
use Rattle.early_receiver.specs.Early.{lent_after}
use Rattle.early_receiver.proofs.RequestLaws.{move-bound, fit_length}
use Rattle.early_messages.specs.Delivery.{delivered_count}
use Rattle.early_messages.proofs.ReachLaws.{opens, Moves, Stays, Step, moves, stays, step, moved_to}

-- ---- how far the expected number moves

pub number-past-top : (n h : ℕ) → number_past n h ≤ 18446744073709551615
unfolding number_past
number-past-top n h = omega arith

move-top : (c f n h : ℕ) → n ≤ 18446744073709551615 → (move_by c f n h).next.0 ≤ 18446744073709551615
unfolding move_by
move-top zero f n h b = b
move-top (suc c) f n h b =
    either (eqb f n) _ (λ q. rw q (move-top c (f + 1) (number_past n h) (past h (run h + 1)) (number-past-top n h))) (λ q. rw q (move-top c (f + 1) n h b))

-- ---- where data moves the number

pub record Reached (s : Lent) (l : List ℕ) : Type 0 where
  pub fit : number_of l + count_of l ≤ 18446744073709551615
  pub top : next_of (lent_after s l).receiver ≤ 18446744073709551615
  pub near : next_of (lent_after s l).receiver ≤ number_of l + 32807

pub reached : (s : Lent) (l : List ℕ) → Moves s l → Reached s l
unfolding move_to
reached s l g =
    let n = next_of s.receiver in
    let h = s.receiver.held.0 in
    let d = sound l g.well in
    let b = g.begins in
    let e = g.ends in
    let k : block_count l ≡ count_of l = kind-blocks l data_packet g.kind in
    let t = fit_length (block_count l) (drop 20 l) (sound-fit _ _ d.blocks-good) in
    let m = number_of l + count_of l - n in
    let fit : number_of l + count_of l ≤ 18446744073709551615 = omega (arith, d.numbers_fit) in
    let few : count_of l ≤ 32743 = omega (arith, length-drop 20 l, d.short) in
    let far : (move_by m n n h).next.0 ≤ max n (n + m + 64) = move-bound m n n h in
    record { fit = fit; top = rw (moved_to s l g) (move-top m n n h (omega arith)); near = rw (moved_to s l g) (omega arith) }

pub few : (s : Lent) (l : List ℕ) → delivered_count s l ≤ 65535
unfolding delivered_count
few s l = go (step s l)
  where
    go : Step s l → next_of (lent_after s l).receiver - next_of s.receiver ≤ 65535
    go (moves g) = let r = reached s l g in omega (arith, r.near, g.begins)
    go (stays g) = omega (arith, g.number)

-- what is known of a place below the count
pub record Delivered (s : Lent) (l : List ℕ) (p : ℕ) : Type 0 where
  pub its-data : Moves s l
  pub small : next_of s.receiver + p - number_of l ≤ 65535
  pub within : next_of s.receiver + p ≤ 18446744073709551615

pub delivered : (s : Lent) (l : List ℕ) (p : ℕ) → p < delivered_count s l → Delivered s l p
unfolding delivered_count
delivered s l p h = go (step s l)
  where
    go : Step s l → Delivered s l p
    go (moves g) = let r = reached s l g in record { its-data = g; small = omega (arith, r.near); within = omega (arith, r.top) }
    go (stays g) = absurd (omega (arith, g.number))

-- ---- as the code counts

module _ (r : EarlyReceiver) (k s l : List ℕ) where
  none_so : Stays (lent r k s) l → 0 ≡ min 65535 (delivered_count (lent r k s) l)
  unfolding delivered_count
  none_so g = omega (arith, g.number)

  pub count-slots : (length s ≡ 65536 → ⊥) → 0 ≡ min 65535 (delivered_count (lent r k s) l)
  count-slots z = go (step (lent r k s) l)
    where
      go : Step (lent r k s) l → 0 ≡ min 65535 (delivered_count (lent r k s) l)
      go (moves g) = absurd (z (opens (lent r k s) l g.open-so).slots)
      go (stays g) = none_so g

  pub count-lengths : (length k ≡ 128 → ⊥) → 0 ≡ min 65535 (delivered_count (lent r k s) l)
  count-lengths z = go (step (lent r k s) l)
    where
      go : Step (lent r k s) l → 0 ≡ min 65535 (delivered_count (lent r k s) l)
      go (moves g) = absurd (z (opens (lent r k s) l g.open-so).lengths)
      go (stays g) = none_so g

  module _ (a : Plain) (e : answer_words a ≡ answer_of r.base l) where
    silent : ((answer_words a).which ≡ answer deliver → ⊥) → 0 ≡ min 65535 (delivered_count (lent r k s) l)
    silent z = go (step (lent r k s) l)
      where
        go : Step (lent r k s) l → 0 ≡ min 65535 (delivered_count (lent r k s) l)
        go (moves g) = absurd (z (which-of (e ∙ g.answers)))
        go (stays g) = none_so g

    pub count-old : a ≡ plain.Old → 0 ≡ min 65535 (delivered_count (lent r k s) l)
    unfolding answer_words
    count-old f = silent (λ w. let x = rw f at w in let v : ◌≡◌ {A = ℕ} 0 1 = cc in omega arith)

    pub count-quiet : a ≡ plain.Quiet → 0 ≡ min 65535 (delivered_count (lent r k s) l)
    unfolding answer_words
    count-quiet f = silent (λ w. let x = rw f at w in let v : ◌≡◌ {A = ℕ} 0 1 = cc in omega arith)

    pub count-ask : (n : SequenceNumber) (c : MessageCount) → a ≡ plain.Ask n c → 0 ≡ min 65535 (delivered_count (lent r k s) l)
    unfolding answer_words
    count-ask n c f = silent (λ w. let x = rw f at w in let v : ◌≡◌ {A = ℕ} 0 1 = cc in omega arith)

    pub count-ended : a ≡ plain.Ended → 0 ≡ min 65535 (delivered_count (lent r k s) l)
    unfolding answer_words
    count-ended f = silent (λ w. let x = rw f at w in let v : ◌≡◌ {A = ℕ} 0 1 = cc in omega arith)

    pub count-refused : (x : Refusal) → a ≡ plain.Refused x → 0 ≡ min 65535 (delivered_count (lent r k s) l)
    unfolding answer_words
    count-refused y f = silent (λ w. let x = rw f at w in let v : ◌≡◌ {A = ℕ} 0 1 = cc in omega arith)

    pub count-deliver : (f : SequenceNumber) (c : MessageCount) (p : MessagePlace) (t d : ℕ) (m : Moved) → length s ≡ 65536 → length k ≡ 128
        → a ≡ plain.Deliver f c p → t ≡ min 18446744073709551615 (f.0 + c.0) → m ≡ move_to f.0 r.held.0 t
        → d ≡ min 65535 (m.next.0 - f.0) → d ≡ min 65535 (delivered_count (lent r k s) l)
    unfolding answer_words delivered_count
    count-deliver f c p t d m x y q u v w = go (step (lent r k s) l)
      where
        said : answer_of r.base l ≡ says deliver (f.0 ∷ c.0 ∷ p.0 ∷ [])
        said = sym e ∙ rw q refl

        go : Step (lent r k s) l → d ≡ min 65535 (next_of (lent_after (lent r k s) l).receiver - r.base.next.0)
        go (stays g) = absurd (g.silent x y (which-of said))
        go (moves g) =
            let i : f.0 ∷ c.0 ∷ p.0 ∷ [] ≡ r.base.next.0 ∷ (number_of l + count_of l - r.base.next.0) ∷ (r.base.next.0 - number_of l) ∷ [] =
            values-of (sym said ∙ g.answers) in
            let first : f.0 ≡ r.base.next.0 = cc in
            let many : c.0 ≡ number_of l + count_of l - r.base.next.0 = cc in
            let end : t ≡ number_of l + count_of l = omega (arith, g.ends, (reached (lent r k s) l g).fit) in
            let at : m ≡ move_to r.base.next.0 r.held.0 (number_of l + count_of l) = v ∙ rw (first, end) refl in
            w ∙ rw (moved_to (lent r k s) l g, at, first) refl

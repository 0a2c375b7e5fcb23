-- What a deliver answer says of the datagram, and that the cursor visits what it delivers.
use mathlib.Core.Path.{◌≡◌, ap, sym, ◌∙◌}
use mathlib.Core.List.{List, [], ◌∷◌}
use mathlib.Core.Bool.{true, false}
use Prim.Native.Nat.{ℕ, zero, suc, ◌+◌, ◌-◌, ◌≤◌, ◌<◌, min}
use native.Mathlib.Omega.{arith}
use native.Mathlib.Nat.{zero-add, suc-add}
use lib.ListN.{length, get_or, drop, length-drop}
use lib.Seq.{get_or-drop}
use borrow.Author.Tests.{lt-ltb, le-ltb}
use Rattle.wire.specs.Words.{answer, says}
use Rattle.wire.specs.Bytes.{AreBytes}
use Rattle.wire.proofs.Cases.{zero_or_not}
use Rattle.wire.proofs.Words.{which-of, values-of}
use Rattle.wire.proofs.Numbers.{small-number}
use Rattle.moldudp64.specs.Header.{number_of, count_of}
use Rattle.moldudp64.specs.Downstream.{DownstreamKind, data_packet, kind_of, refusal_of, messages_of, message_number, message_of}
use Rattle.moldudp64.proofs.DownstreamLaws.{count-sound, kind-blocks}
use Rattle.moldudp64_messages.specs.declared.cursor.Cursor.{Cursor}
use Rattle.moldudp64_messages.specs.declared.cursor.Located.{Located}
use Rattle.moldudp64_messages.specs.Cursor.{advanced, advanced_by, first_of, start_of, located, part, locate_of, WalksTheMessages, PartIsMessage}
use Rattle.moldudp64_messages.proofs.CursorLaws.{walks-the-messages, part-is-message}
use Rattle.receiver.specs.declared.receiver.Receiver.{Receiver}
use Rattle.receiver.specs.Table.{deliver, Outcome, Row, data_reaches, data_below, heartbeat_below, heartbeat_there, any_above, end_there, deliver_outcome}
use Rattle.receiver.specs.Receiver.{refusal_for, answer_of}
use Rattle.receiver.specs.Delivery.{messages_delivered_at, delivery_cursor, DeliveryVisits}
use Rattle.receiver.proofs.TableLaws.{row-answer}
use Rattle.receiver.proofs.Promises.{row_of, refused-answers, well-read}

-- ---- only the first row delivers

pub record Reaches (n : ℕ) (k : DownstreamKind) (f c : ℕ) (o : Outcome) : Type 0 where
  pub kind : k ≡ data_packet
  pub begins : f ≤ n
  pub ends : n < f + c
  pub outcome : o ≡ deliver_outcome n f c

reaches : (limit n : ℕ) (k : DownstreamKind) (f c : ℕ) (o : Outcome) → Row limit n k f c o → o.reply.which ≡ answer deliver → Reaches n k f c o
reaches limit n k f c o (data_reaches a b d e) w = record { kind = a; begins = b; ends = d; outcome = e }
reaches limit n k f c o (data_below a b e) w = let x = sym (ap (λ (y : Outcome). y.reply.which) e) ∙ w in let z : ◌≡◌ {A = ℕ} 0 1 = cc in absurd (omega arith)
reaches limit n k f c o (heartbeat_below a b e) w = let x = sym (ap (λ (y : Outcome). y.reply.which) e) ∙ w in let z : ◌≡◌ {A = ℕ} 0 1 = cc in absurd (omega arith)
reaches limit n k f c o (heartbeat_there a b e) w = let x = sym (ap (λ (y : Outcome). y.reply.which) e) ∙ w in let z : ◌≡◌ {A = ℕ} 0 1 = cc in absurd (omega arith)
reaches limit n k f c o (any_above h e) w = let x = sym (ap (λ (y : Outcome). y.reply.which) e) ∙ w in let z : ◌≡◌ {A = ℕ} 0 1 = cc in absurd (omega arith)
reaches limit n k f c o (end_there a b e) w = let x = sym (ap (λ (y : Outcome). y.reply.which) e) ∙ w in let z : ◌≡◌ {A = ℕ} 0 1 = cc in absurd (omega arith)

-- a deliver answer is of data that was accepted; its first number is the one after the skipped messages', and its count and
-- skipped make the datagram's count
record Delivering (l : List ℕ) (first count skipped : ℕ) : Type 0 where
  well : refusal_of l ≡ 0
  kind : kind_of l ≡ data_packet
  starts : first ≡ message_number l skipped
  all : count + skipped ≡ count_of l

delivering : (r : Receiver) (l : List ℕ) (first count skipped : ℕ) → answer_of r l ≡ says deliver (first ∷ count ∷ skipped ∷ []) → Delivering l first count skipped
delivering r l first count skipped e = zero_or_not _ (refusal_for r l) good bad
  where
    good : refusal_for r l ≡ 0 → Delivering l first count skipped
    good z =
        let f = sym (row-answer r l z) ∙ e in
        let x = reaches _ _ _ _ _ _ (row_of r l z) (which-of f) in
        let v : r.next.0 ∷ (number_of l + count_of l - r.next.0) ∷ (r.next.0 - number_of l) ∷ [] ≡ first ∷ count ∷ skipped ∷ [] =
        values-of (sym (ap (λ (o : Outcome). o.reply) x.outcome) ∙ f) in
        let p : number_of l + count_of l - r.next.0 ≡ count = cc in
        let q : r.next.0 - number_of l ≡ skipped = cc in
        let s : r.next.0 ≡ first = cc in
        record { well = well-read r l z; kind = x.kind; starts = omega (arith, x.begins); all = omega (arith, x.begins, x.ends) }

    bad : (refusal_for r l ≡ 0 → ⊥) → Delivering l first count skipped
    bad z = let w = which-of (sym (refused-answers r l z) ∙ e) in let k : ◌≡◌ {A = ℕ} 0 1 = cc in absurd (omega arith)

-- ---- the cursor

pub moves-add : (k i : ℕ) (l : List ℕ) (c : Cursor) → advanced_by i l (advanced_by k l c) ≡ advanced_by (k + i) l c
unfolding advanced_by
moves-add zero i l c = rw zero-add
moves-add (suc k) i l c = rw suc-add (moves-add k i l (advanced l c))

short-count : (l : List ℕ) → AreBytes l → count_of l ≤ 65535
unfolding count_of
short-count l small = let h = small-number 2 l 18 small in omega arith

there-at : (l : List ℕ) (k : ℕ) → k < length (messages_of l) → (locate_of l k).exists ≡ true
unfolding locate_of
there-at l k h = rw (lt-ltb _ _ h)

gone_at : (l : List ℕ) (k : ℕ) → length (messages_of l) ≤ k → (locate_of l k).exists ≡ false
unfolding locate_of
gone_at l k h = rw (le-ltb _ _ h)

message-at : (l : List ℕ) (k i : ℕ) → message_of l (k + i) ≡ get_or (drop k (messages_of l)) i []
unfolding message_of
message-at l k i = sym (get_or-drop k (messages_of l) i [])

-- ---- as the code of `start` has it: c at the first block, d after the moves

pub delivery-none : (l : List ℕ) (k s : ℕ) (c : Cursor) → 65535 < s + k → c ≡ first_of 0 → c ≡ delivery_cursor l k s
unfolding delivery_cursor
delivery-none l k s c h e = let g : 65535 < k + s = omega arith in e ∙ rw (lt-ltb _ _ g)

pub delivery-start : (l : List ℕ) (k s b : ℕ) (c d : Cursor) → s + k ≤ 65535 → b ≡ min 65535 (s + k) → c ≡ first_of b → d ≡ advanced_by s l c
    → d ≡ delivery_cursor l k s
unfolding delivery_cursor
delivery-start l k s b c d h i e f =
    let g : k + s ≤ 65535 = omega arith in
    let j : b ≡ k + s = omega arith in
    f ∙ ap (advanced_by s l) (e ∙ ap first_of j) ∙ rw (le-ltb _ _ g)

-- i moves from where a delivery starts are skipped + i moves from the first message
module _ (r : Receiver) (l : List ℕ) (first count skipped : ℕ) (small : AreBytes l) (e : answer_of r l ≡ says deliver (first ∷ count ∷ skipped ∷ [])) where
  all_there : length (messages_of l) ≡ count + skipped
  all_there =
      let d = delivering r l first count skipped e in
      let n : length (messages_of l) ≡ count_of l = count-sound l d.well ∙ kind-blocks l data_packet d.kind in
      n ∙ sym d.all

  pub delivery-moves : (i : ℕ) → advanced_by i l (delivery_cursor l count skipped) ≡ advanced_by (skipped + i) l (start_of l)
  unfolding delivery_cursor
  delivery-moves i =
      let d = delivering r l first count skipped e in
      let b : count_of l ≤ 65535 = short-count l small in
      let h : count + skipped ≤ 65535 = omega (arith, d.all) in
      let c : first_of (count + skipped) ≡ start_of l = ap first_of (sym all_there) in
      rw (le-ltb _ _ h) (moves-add skipped i l (first_of (count + skipped)) ∙ ap (advanced_by (skipped + i) l) c)

pub delivery-visits : DeliveryVisits
unfolding DeliveryVisits messages_delivered_at WalksTheMessages PartIsMessage
delivery-visits r l first count skipped small e =
    let n = all_there r l first count skipped small e in
    let at : (i : ℕ) → located l (advanced_by i l (delivery_cursor l count skipped)) ≡ locate_of l (skipped + i) =
    λ i. ap (located l) (delivery-moves r l first count skipped small e i) ∙ walks-the-messages l (skipped + i) in
    rw e
    (record {
      its_number = (delivering r l first count skipped e).starts;
      visits =
          record {
            as_many = omega (arith, length-drop skipped (messages_of l));
            there = λ i g. ap (λ (p : Located). p.exists) (at i) ∙ there-at l (skipped + i) (omega arith);
            stops = λ i g. ap (λ (p : Located). p.exists) (at i) ∙ gone_at l (skipped + i) (omega arith);
            each = λ i. ap (part l) (at i) ∙ part-is-message l (skipped + i) ∙ message-at l skipped i;
          };
    })

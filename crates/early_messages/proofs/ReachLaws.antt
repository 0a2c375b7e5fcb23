-- Data that reaches the expected number moves it, and nothing else does: what each datagram comes to.
use mathlib.Core.Path.{◌≡◌, refl, sym, ap, ◌∙◌}
use mathlib.Core.List.{List, [], ◌∷◌}
use mathlib.Core.Bool.{◌&&◌}
use Prim.Native.Nat.{ℕ, ◌+◌, ◌-◌, ◌≤◌, ◌<◌}
use native.Mathlib.Omega.{arith}
use lib.ListN.{length}
use lib.Dec.{eqb}
use borrow.Author.Tests.{eq-eqb, ne_eqb, eqb-true}
use Rattle.wire.specs.Words.{answer, says}
use Rattle.wire.proofs.Cases.{zero_or_not}
use Rattle.wire.proofs.Words.{which-of}
use Rattle.moldudp64.specs.Header.{number_of, count_of}
use Rattle.moldudp64.specs.Downstream.{DownstreamKind, data_packet, heartbeat, end_of_session, kind_of, refusal_of, messages_of}
use Rattle.moldudp64.proofs.DownstreamLaws.{sound, count-sound, kind-blocks}
use Rattle.receiver.specs.declared.receiver.Receiver.{Receiver}
use Rattle.receiver.specs.Table.{deliver, Outcome, Row, data_reaches, data_below, heartbeat_below, heartbeat_there, any_above, end_there}
use Rattle.receiver.specs.Receiver.{refusal_for, table_row, answer_of}
use Rattle.receiver.proofs.TableLaws.{row-answer}
use Rattle.receiver.proofs.Promises.{row_of, refused-answers, well-read}
use Rattle.early_holding.specs.Holding.{Lent, lent, next_of, early, at, keep_one, take_one, take_all, move_to}
use Rattle.early_holding.proofs.HoldingLaws.{either, both, keeps_below}
use Rattle.early_receiver.specs.Early.{early_refusal, named_lent, end_at, take_kind, lent_after}
use Rattle.early_receiver.proofs.AnswerLaws.{slots-open}
use Rattle.early_receiver.proofs.KeepingLaws.{one-above, one-next, above-base, all-below, all_old}
use Rattle.early_receiver.proofs.RequestLaws.{after_open}
use Rattle.early_receiver.proofs.AloneLaws.{refusal-alone}
use Rattle.early_messages.specs.Delivery.{gives_one, gives_all, gives_kind, gives}

-- ---- the refusals

pub right-refusal : (s : Lent) (l : List ℕ) → length s.slots ≡ 65536 → length s.lengths ≡ 128 → early_refusal s l ≡ refusal_for s.receiver.base l
right-refusal s l e f = refusal-alone s l (rw (eq-eqb _ _ e, eq-eqb _ _ f))

pub record Opens (s : Lent) (l : List ℕ) : Type 0 where
  pub slots : length s.slots ≡ 65536
  pub lengths : length s.lengths ≡ 128
  pub plain : refusal_for s.receiver.base l ≡ 0

pub opens : (s : Lent) (l : List ℕ) → early_refusal s l ≡ 0 → Opens s l
unfolding early_refusal
opens s l e =
    let o = slots-open (eqb (length s.slots) 65536 && eqb (length s.lengths) 128) _ e in
    let b = both (eqb (length s.slots) 65536) (eqb (length s.lengths) 128) o.0 in
    record { slots = eqb-true _ _ b.0; lengths = eqb-true _ _ b.1; plain = o.1 }

-- ---- one message at a time: those below the expected number are left, those above it at most kept

one_below : (s : Lent) (j : ℕ) (m : List ℕ) → j < next_of s.receiver → take_one s j m ≡ s
unfolding take_one keep_one
one_below s j m h =
    let z : j ≡ next_of s.receiver → ⊥ = λ e. omega arith in
    rw (ne_eqb _ _ z, ← keeps_below s.receiver j (length m) (omega arith)) refl

above-next : (s : Lent) (j : ℕ) (m : List ℕ) → next_of s.receiver < j → next_of (take_one s j m).receiver ≡ next_of s.receiver
above-next s j m h = ap (λ (x : Lent). next_of x.receiver) (one-above s j m h) ∙ one-next s j m

other_none : (s : Lent) (j : ℕ) (m : List ℕ) → (j ≡ next_of s.receiver → ⊥) → gives_one s j m ≡ []
unfolding gives_one
other_none s j m z = rw (ne_eqb _ _ z) refl

none_below : (s : Lent) (f : ℕ) (ms : List (List ℕ)) → f + length ms ≤ next_of s.receiver → gives_all s f ms ≡ []
unfolding gives_all
none_below s f [] h = refl
none_below s f (m ∷ ms) h =
    rw (other_none s f m (λ e. omega arith), one_below s f m (omega arith)) (none_below s (f + 1) ms (omega arith))

none_above : (s : Lent) (f : ℕ) (ms : List (List ℕ)) → next_of s.receiver < f → gives_all s f ms ≡ []
unfolding gives_all
none_above s f [] h = refl
none_above s f (m ∷ ms) h =
    let e = above-next s f m h in
    rw (other_none s f m (λ e. omega arith)) (none_above (take_one s f m) (f + 1) ms (omega arith))

-- the receiver moved on, with all that is lent as it was
abbrev pub stand : Lent → ℕ → ℕ → Lent
stand s n h = lent (early (at s.receiver.base n) h) s.lengths s.slots

-- ---- a datagram

pub refused-after : (s : Lent) (l : List ℕ) → (early_refusal s l ≡ 0 → ⊥) → lent_after s l ≡ s
unfolding lent_after
refused-after s l z = rw (ne_eqb _ _ z) refl

refused-gives : (s : Lent) (l : List ℕ) → (early_refusal s l ≡ 0 → ⊥) → gives s l ≡ []
unfolding gives
refused-gives s l z = rw (ne_eqb _ _ z) refl

open_after : (s : Lent) (l : List ℕ) (k : DownstreamKind) → early_refusal s l ≡ 0 → kind_of l ≡ k → lent_after s l ≡ take_kind (named_lent s l) k l
open_after s l k z e = after_open s l z ∙ ap (λ (x : DownstreamKind). take_kind (named_lent s l) x l) e

open_gives : (s : Lent) (l : List ℕ) (k : DownstreamKind) → early_refusal s l ≡ 0 → kind_of l ≡ k → gives s l ≡ gives_kind s k l
unfolding gives
open_gives s l k z e = rw (z, e) refl

data-after : (s : Lent) (l : List ℕ) → early_refusal s l ≡ 0 → kind_of l ≡ data_packet → lent_after s l ≡ take_all (named_lent s l) (number_of l) (messages_of l)
unfolding take_kind
data-after s l z k = open_after s l data_packet z k

pub data_gives : (s : Lent) (l : List ℕ) → early_refusal s l ≡ 0 → kind_of l ≡ data_packet → gives s l ≡ gives_all s (number_of l) (messages_of l)
unfolding gives_kind
data_gives s l z k = open_gives s l data_packet z k

pub data-count : (l : List ℕ) → refusal_of l ≡ 0 → kind_of l ≡ data_packet → length (messages_of l) ≡ count_of l
data-count l w k = count-sound l w ∙ kind-blocks l data_packet k

-- data that reaches the expected number
pub record Moves (s : Lent) (l : List ℕ) : Type 0 where
  pub open-so : early_refusal s l ≡ 0
  pub kind : kind_of l ≡ data_packet
  pub well : refusal_of l ≡ 0
  pub begins : number_of l ≤ next_of s.receiver
  pub ends : next_of s.receiver < number_of l + count_of l
  pub answers : answer_of s.receiver.base l
      ≡ says deliver (next_of s.receiver ∷ (number_of l + count_of l - next_of s.receiver) ∷ (next_of s.receiver - number_of l) ∷ [])

-- and anything else
pub record Stays (s : Lent) (l : List ℕ) : Type 0 where
  pub number : next_of (lent_after s l).receiver ≡ next_of s.receiver
  pub nothing : gives s l ≡ []
  pub silent : length s.slots ≡ 65536 → length s.lengths ≡ 128 → (answer_of s.receiver.base l).which ≡ answer deliver → ⊥

pub data Step (s : Lent) (l : List ℕ) : Type 0 where
  moves : Moves s l → Step s l
  stays : Stays s l → Step s l

module _ (s : Lent) (l : List ℕ) (z : early_refusal s l ≡ 0) where
  still : (k : DownstreamKind) → kind_of l ≡ k → next_of (take_kind (named_lent s l) k l).receiver ≡ next_of s.receiver → gives_kind s k l ≡ []
      → ((table_row s.receiver.base l).reply.which ≡ answer deliver → ⊥) → Step s l
  still k e n g a =
      stays
      (record {
        number = ap (λ (x : Lent). next_of x.receiver) (open_after s l k z e) ∙ n;
        nothing = open_gives s l k z e ∙ g;
        silent = λ x y w. a (sym (which-of (row-answer s.receiver.base l (opens s l z).plain)) ∙ w);
      })

  beat-still : kind_of l ≡ heartbeat → ((table_row s.receiver.base l).reply.which ≡ answer deliver → ⊥) → Step s l
  unfolding take_kind gives_kind
  beat-still k a = still heartbeat k refl refl a

  end-still : kind_of l ≡ end_of_session → ((table_row s.receiver.base l).reply.which ≡ answer deliver → ⊥) → Step s l
  unfolding take_kind gives_kind end_at
  end-still k a = still end_of_session k (either (eqb (number_of l) (next_of s.receiver)) _ (λ q. rw q refl) (λ q. rw q refl)) refl a

  below-still : kind_of l ≡ data_packet → number_of l + count_of l ≤ next_of s.receiver → ((table_row s.receiver.base l).reply.which ≡ answer deliver → ⊥) → Step s l
  unfolding take_kind gives_kind
  below-still k h a =
      let c = data-count l (well-read s.receiver.base l (opens s l z).plain) k in
      let g : number_of l + length (messages_of l) ≤ next_of s.receiver = omega arith in
      still data_packet k (ap (λ (x : Lent). next_of x.receiver) (all_old (messages_of l) (named_lent s l) (number_of l) g))
      (none_below s (number_of l) (messages_of l) g) a

  above-still : kind_of l ≡ data_packet → next_of s.receiver < number_of l → ((table_row s.receiver.base l).reply.which ≡ answer deliver → ⊥) → Step s l
  unfolding take_kind gives_kind
  above-still k h a =
      still data_packet k (ap (λ (r : Receiver). r.next.0) (above-base (messages_of l) (named_lent s l) (number_of l) h)) (none_above s (number_of l) (messages_of l) h) a

  by_kind : (k : DownstreamKind) → kind_of l ≡ k → next_of s.receiver < number_of l → ((table_row s.receiver.base l).reply.which ≡ answer deliver → ⊥) → Step s l
  by_kind data_packet k h a = above-still k h a
  by_kind heartbeat k h a = beat-still k a
  by_kind end_of_session k h a = end-still k a

  by_row : (o : Outcome) → table_row s.receiver.base l ≡ o
      → Row s.receiver.base.limit.0 (next_of s.receiver) (kind_of l) (number_of l) (count_of l) o → Step s l
  by_row o t (data_reaches k b d e) =
      let p = (opens s l z).plain in
      moves
      (record {
        open-so = z;
        kind = k;
        well = well-read s.receiver.base l p;
        begins = b;
        ends = d;
        answers = row-answer s.receiver.base l p ∙ ap (λ (y : Outcome). y.reply) (t ∙ e);
      })
  by_row o t (data_below k b e) =
      below-still k b (λ w. let x = sym (ap (λ (y : Outcome). y.reply.which) (t ∙ e)) ∙ w in let v : ◌≡◌ {A = ℕ} 0 1 = cc in omega arith)
  by_row o t (heartbeat_below k b e) =
      beat-still k (λ w. let x = sym (ap (λ (y : Outcome). y.reply.which) (t ∙ e)) ∙ w in let v : ◌≡◌ {A = ℕ} 0 1 = cc in omega arith)
  by_row o t (heartbeat_there k b e) =
      beat-still k (λ w. let x = sym (ap (λ (y : Outcome). y.reply.which) (t ∙ e)) ∙ w in let v : ◌≡◌ {A = ℕ} 0 1 = cc in omega arith)
  by_row o t (any_above h e) =
      by_kind (kind_of l) refl h (λ w. let x = sym (ap (λ (y : Outcome). y.reply.which) (t ∙ e)) ∙ w in let v : ◌≡◌ {A = ℕ} 0 1 = cc in omega arith)
  by_row o t (end_there k b e) =
      end-still k (λ w. let x = sym (ap (λ (y : Outcome). y.reply.which) (t ∙ e)) ∙ w in let v : ◌≡◌ {A = ℕ} 0 1 = cc in omega arith)

pub step : (s : Lent) (l : List ℕ) → Step s l
step s l =
    zero_or_not _ (early_refusal s l) (λ z. by_row s l z _ refl (row_of s.receiver.base l (opens s l z).plain))
    (λ z.
    stays
    (record {
      number = ap (λ (x : Lent). next_of x.receiver) (refused-after s l z);
      nothing = refused-gives s l z;
      silent = λ a b w.
          let x = sym (which-of (refused-answers s.receiver.base l (λ y. z (right-refusal s l a b ∙ y)))) ∙ w in
          let v : ◌≡◌ {A = ℕ} 0 1 = cc in
          omega arith;
    }))

-- where it moves to
pub moved_to : (s : Lent) (l : List ℕ) → Moves s l
    → next_of (lent_after s l).receiver ≡ (move_to (next_of s.receiver) s.receiver.held.0 (number_of l + count_of l)).next.0
moved_to s l g =
    let n = next_of s.receiver in
    let h = s.receiver.held.0 in
    ap (λ (x : Lent). next_of x.receiver)
    (data-after s l g.open-so g.kind
    ∙ all-below (named_lent s l) (number_of l) (messages_of l) g.begins (omega (arith, count-sound l g.well, (sound l g.well).numbers_fit)))
    ∙ ap (λ (k : ℕ). (move_to n h (number_of l + k)).next.0) (data-count l g.well g.kind)

-- The receiver alone, without what is lent to it: computed from the datagrams, whatever bytes the slots have.
use mathlib.Core.Path.{◌≡◌, refl, sym, ap, ◌∙◌}
use mathlib.Core.List.{List, [], ◌∷◌}
use mathlib.Core.Bool.{true}
use Prim.Native.Nat.{ℕ, ◌+◌, ◌-◌}
use lib.ListN.{length}
use lib.Dec.{eqb}
use Rattle.std.specs.Prelude.{if◌then◌else◌}
use Rattle.wire.specs.Words.{Words, refuses}
use Rattle.moldudp64.specs.Header.{number_of}
use Rattle.moldudp64.specs.Downstream.{DownstreamKind, data_packet, heartbeat, end_of_session, kind_of, messages_of}
use Rattle.receiver.specs.Table.{AnswerKind}
use Rattle.receiver.specs.Receiver.{named_by, refusal_for, table_row}
use Rattle.early_word.specs.Word.{run, past, marked}
use Rattle.early_holding.specs.declared.holding.EarlyReceiver.{EarlyReceiver}
use Rattle.early_holding.specs.Holding.{Lent, early, next_of, at, number_past, advance, keeps, keep, keep_one, take_one, take_all}
use Rattle.early_holding.proofs.HoldingLaws.{either}
use Rattle.early_receiver.specs.Early.{right_size, with_slots, early_refusal, named_lent, ended_now, end_at, take_kind, lent_after, wanted, request_of}
use Rattle.early_receiver.specs.Early.{answer_by, early_answer}
use Rattle.early_receiver.specs.Statements.{SlotsDontMatter}
use Rattle.early_receiver.proofs.ByteLaws.{after-slots, after-lengths}

-- ---- one message, of which only the length counts

unfoldable pub keep_alone : EarlyReceiver → ℕ → ℕ → EarlyReceiver
keep_alone r j size = if keeps r j size then early r.base (marked r.held.0 (j - next_of r - 1)) else r

unfoldable pub one_alone : EarlyReceiver → ℕ → ℕ → EarlyReceiver
one_alone r j size =
    if eqb j (next_of r) then early (at r.base (number_past (next_of r) r.held.0)) (past r.held.0 (run r.held.0 + 1))
    else keep_alone r j size

keep-alone : (s : Lent) (j : ℕ) (m : List ℕ) → (keep_one s j m).receiver ≡ keep_alone s.receiver j (length m)
unfolding keep_one keep keep_alone
keep-alone s j m = either (keeps s.receiver j (length m)) _ (λ q. rw q) (λ q. rw q)

pub one-alone : (s : Lent) (j : ℕ) (m : List ℕ) → (take_one s j m).receiver ≡ one_alone s.receiver j (length m)
unfolding take_one advance one_alone
one-alone s j m = either (eqb j (next_of s.receiver)) _ (λ q. rw q) (λ q. rw q (keep-alone s j m))

-- ---- the messages of a datagram

unfoldable pub all_alone : EarlyReceiver → ℕ → List (List ℕ) → EarlyReceiver
all_alone r f [] = r
all_alone r f (m ∷ ms) = all_alone (one_alone r f (length m)) (f + 1) ms

pub all-alone : (ms : List (List ℕ)) (s : Lent) (f : ℕ) → (take_all s f ms).receiver ≡ all_alone s.receiver f ms
unfolding take_all all_alone
all-alone [] s f = refl
all-alone (m ∷ ms) s f =
    all-alone ms (take_one s f m) (f + 1) ∙ ap (λ (r : EarlyReceiver). all_alone r (f + 1) ms) (one-alone s f m)

-- ---- a datagram, where what is lent is of its size

abbrev pub named_alone : EarlyReceiver → List ℕ → EarlyReceiver
named_alone r l = early (named_by r.base l) r.held.0

unfoldable pub kind_alone : EarlyReceiver → DownstreamKind → List ℕ → EarlyReceiver
kind_alone r data_packet l = all_alone r (number_of l) (messages_of l)
kind_alone r heartbeat l = r
kind_alone r end_of_session l = if eqb (number_of l) (next_of r) then ended_now r else r

unfoldable pub after_alone : EarlyReceiver → List ℕ → EarlyReceiver
after_alone r l = if eqb (refusal_for r.base l) 0 then kind_alone (named_alone r l) (kind_of l) l else r

unfoldable pub answer_alone : EarlyReceiver → List ℕ → Words AnswerKind
answer_alone r l =
    if eqb (refusal_for r.base l) 0
    then answer_by (table_row r.base l).reply.which (next_of r) (number_of l) (next_of (after_alone r l))
    else refuses (refusal_for r.base l)

unfoldable pub request_alone : EarlyReceiver → List ℕ → List ℕ
request_alone r l = if eqb (refusal_for r.base l) 0 then wanted (after_alone r l) (number_of l) else []

kind-alone : (s : Lent) (k : DownstreamKind) (l : List ℕ) → (take_kind s k l).receiver ≡ kind_alone s.receiver k l
unfolding take_kind kind_alone end_at
kind-alone s data_packet l = all-alone (messages_of l) s (number_of l)
kind-alone s heartbeat l = refl
kind-alone s end_of_session l = either (eqb (number_of l) (next_of s.receiver)) _ (λ q. rw q) (λ q. rw q)

module _ (s : Lent) (l : List ℕ) (e : right_size s ≡ true) where
  pub refusal-alone : early_refusal s l ≡ refusal_for s.receiver.base l
  unfolding early_refusal with_slots
  refusal-alone = rw e

  pub after-alone : (lent_after s l).receiver ≡ after_alone s.receiver l
  unfolding lent_after after_alone
  after-alone =
      rw refusal-alone
      (either (eqb (refusal_for s.receiver.base l) 0) _ (λ q. rw q (kind-alone (named_lent s l) (kind_of l) l)) (λ q. rw q))

  pub answer-alone : early_answer s l ≡ answer_alone s.receiver l
  unfolding early_answer answer_alone
  answer-alone = rw (refusal-alone, after-alone)

  pub request-alone : request_of s l ≡ request_alone s.receiver l
  unfolding request_of request_alone
  request-alone = rw (refusal-alone, after-alone)

  -- what is lent is of its size afterwards too
  pub size-stays : right_size (lent_after s l) ≡ true
  size-stays = rw (after-slots s l, after-lengths s l) e

pub slots_dont_matter : SlotsDontMatter
unfolding SlotsDontMatter
slots_dont_matter s t l e a b =
    record {
      receiver = after-alone s l a ∙ ap (λ (r : EarlyReceiver). after_alone r l) e ∙ sym (after-alone t l b);
      answers = answer-alone s l a ∙ ap (λ (r : EarlyReceiver). answer_alone r l) e ∙ sym (answer-alone t l b);
      asks = request-alone s l a ∙ ap (λ (r : EarlyReceiver). request_alone r l) e ∙ sym (request-alone t l b);
    }

-- Laws of the answers to an accepted datagram: which of the table's rows each is, and what the datagram then does.
use Rattle.wire.specs.declared.refusal.Refusal.{Refusal}
use Rattle.std.specs.Prelude.{Result, Ok, Err}
use mathlib.Core.Path.{◌≡◌, refl, ap, ◌∙◌}
use mathlib.Core.List.{List}
use mathlib.Core.Bool.{Bool, true, false}
use Prim.Native.Nat.{ℕ, ◌+◌, ◌≤◌, ◌<◌}
use native.Mathlib.Omega.{arith}
use lib.Dec.{ltb, eqb}
use borrow.Author.Tests.{eqb-false, ltb-false}
use Rattle.std.specs.Prelude.{if◌then◌else◌}
use Rattle.wire.specs.Words.{Words, Case, answer, refused}
use Rattle.wire.specs.declared.kinds.SequenceNumber.{SequenceNumber}
use Rattle.moldudp64.specs.declared.downstream.Downstream.{Downstream}
use Rattle.moldudp64.specs.declared.downstream.Downstream.TheVariants.{Data, Heartbeat, EndOfSession}
use Rattle.moldudp64.specs.Downstream.{DownstreamKind, data_packet, heartbeat, end_of_session, downstream_words}
use Rattle.moldudp64_messages.specs.Cursor.{first_of}
use Rattle.receiver.specs.declared.receiver.Receiver.{Receiver}
use Rattle.receiver.specs.Table.{AnswerKind, deliver, old, quiet, ask, ended, Outcome, Row, data_reaches, data_below, heartbeat_below, heartbeat_there, any_above, end_there, deliver_outcome, ask_outcome, ended_outcome, table, numbered}
use Rattle.receiver.specs.Receiver.{end_below, own_refusal, number_read, count_read, below_read_at, below_read, refusal_read, row_read_at, row_read}
use Rattle.receiver.proofs.Promises.{rows, own-none}
use Rattle.early_holding.specs.Holding.{Lent, next_of}
use Rattle.early_holding.proofs.HoldingLaws.{either}
use Rattle.early_receiver.specs.Read.{messages_read, take_read_at}
use Rattle.early_receiver.proofs.KeepingLaws.{all_old, length_from}

-- ---- what an accepted datagram is at a receiver, w being what was read

-- the answers that leave the number and what is held are one case
unfoldable pub tag : Case AnswerKind → ℕ
tag (answer deliver) = 0
tag (answer old) = 1
tag (answer quiet) = 1
tag refused = 1
tag (answer ask) = 2
tag (answer ended) = 3

pub record Reached (n : ℕ) (l : List ℕ) (w : Words DownstreamKind) (o : Outcome) : Type 0 where
  pub is_of_data : w.which ≡ answer data_packet
  pub begins : number_read w ≤ n
  pub reach : n < number_read w + count_read w
  pub outcome : o ≡ deliver_outcome n (number_read w) (count_read w)

pub record Left (n : ℕ) (l : List ℕ) (w : Words DownstreamKind) (o : Outcome) : Type 0 where
  pub begins : number_read w ≤ n
  pub next : o.next ≡ n
  pub goes_on : o.ends ≡ false
  pub same : (s : Lent) → next_of s.receiver ≡ n → take_read_at s l w w.which ≡ s

pub record Above (n limit : ℕ) (w : Words DownstreamKind) (o : Outcome) : Type 0 where
  pub above : n < number_read w
  pub outcome : o ≡ ask_outcome limit n (number_read w)

pub record Over (n : ℕ) (w : Words DownstreamKind) (o : Outcome) : Type 0 where
  pub is-end : w.which ≡ answer end_of_session
  pub number : number_read w ≡ n
  pub outcome : o ≡ ended_outcome n

pub data Arm (limit n : ℕ) (l : List ℕ) (w : Words DownstreamKind) (o : Outcome) : Type 0 where
  reached : Reached n l w o → tag o.reply.which ≡ 0 → Arm limit n l w o
  left : Left n l w o → tag o.reply.which ≡ 1 → Arm limit n l w o
  above : Above n limit w o → tag o.reply.which ≡ 2 → Arm limit n l w o
  over : Over n w o → tag o.reply.which ≡ 3 → Arm limit n l w o

module _ (limit n : ℕ) (l : List ℕ) (w : Words DownstreamKind) where
  old-data : w.which ≡ answer data_packet → number_read w + count_read w ≤ n → (s : Lent) → next_of s.receiver ≡ n → take_read_at s l w w.which ≡ s
  unfolding take_read_at
  old-data k h s e = rw k (all_old (messages_read l (count_read w)) s (number_read w) (omega (arith, length_from (count_read w) l (first_of (count_read w)))))

  by_row : (k : DownstreamKind) (o : Outcome) → w.which ≡ answer k → Row limit n k (number_read w) (count_read w) o → Arm limit n l w o
  unfolding take_read_at tag
  by_row k o e (data_reaches x a b q) =
      reached (record { is_of_data = e ∙ ap answer x; begins = a; reach = b; outcome = q }) (ap (λ (y : Outcome). tag y.reply.which) q)
  by_row k o e (data_below x a q) =
      left (record { begins = omega arith; next = ap (λ (y : Outcome). y.next) q; goes_on = ap (λ (y : Outcome). y.ends) q; same = old-data (e ∙ ap answer x) a })
      (ap (λ (y : Outcome). tag y.reply.which) q)
  by_row k o e (heartbeat_below x a q) =
      left (record { begins = omega arith; next = ap (λ (y : Outcome). y.next) q; goes_on = ap (λ (y : Outcome). y.ends) q; same = λ s z. rw (e ∙ ap answer x) })
      (ap (λ (y : Outcome). tag y.reply.which) q)
  by_row k o e (heartbeat_there x a q) =
      left (record { begins = omega arith; next = ap (λ (y : Outcome). y.next) q; goes_on = ap (λ (y : Outcome). y.ends) q; same = λ s z. rw (e ∙ ap answer x) })
      (ap (λ (y : Outcome). tag y.reply.which) q)
  by_row k o e (any_above a q) = above (record { above = a; outcome = q }) (ap (λ (y : Outcome). tag y.reply.which) q)
  by_row k o e (end_there x a q) = over (record { is-end = e ∙ ap answer x; number = a; outcome = q }) (ap (λ (y : Outcome). tag y.reply.which) q)

-- by tag
module _ {limit n : ℕ} {l : List ℕ} {w : Words DownstreamKind} {o : Outcome} where
  pub is-reached : Arm limit n l w o → tag o.reply.which ≡ 0 → Reached n l w o
  is-reached (reached x t) e = x
  is-reached (left x t) e = absurd (omega arith)
  is-reached (above x t) e = absurd (omega arith)
  is-reached (over x t) e = absurd (omega arith)

  pub is-left : Arm limit n l w o → tag o.reply.which ≡ 1 → Left n l w o
  is-left (reached x t) e = absurd (omega arith)
  is-left (left x t) e = x
  is-left (above x t) e = absurd (omega arith)
  is-left (over x t) e = absurd (omega arith)

  pub is-above : Arm limit n l w o → tag o.reply.which ≡ 2 → Above n limit w o
  is-above (reached x t) e = absurd (omega arith)
  is-above (left x t) e = absurd (omega arith)
  is-above (above x t) e = x
  is-above (over x t) e = absurd (omega arith)

  pub is-over : Arm limit n l w o → tag o.reply.which ≡ 3 → Over n w o
  is-over (reached x t) e = absurd (omega arith)
  is-over (left x t) e = absurd (omega arith)
  is-over (above x t) e = absurd (omega arith)
  is-over (over x t) e = x

-- no row is a refusal with a number
table-open : (limit n : ℕ) (k : DownstreamKind) (f c : ℕ) → (table limit n k f c).reply.refusal ≡ 0
unfolding table
table-open limit n data_packet f c = either (ltb n f) _ (λ q. rw q) (λ q. either (ltb n (f + c)) _ (λ z. rw (q, z)) (λ z. rw (q, z)))
table-open limit n heartbeat f c = either (ltb n f) _ (λ q. rw q) (λ q. either (ltb f n) _ (λ z. rw (q, z)) (λ z. rw (q, z)))
table-open limit n end_of_session f c = either (ltb n f) _ (λ q. rw q) (λ q. rw q)

pub row_open : (r : Receiver) (w : Words DownstreamKind) (k : Case DownstreamKind) → (row_read_at r w k).reply.refusal ≡ 0
unfolding row_read_at
row_open r w (answer k) = table-open r.limit.0 r.next.0 k (number_read w) (count_read w)
row_open r w refused = refl

module _ (r : Receiver) (l : List ℕ) where
  -- the receiver isn't ended, and an end of session isn't below it
  pub unended : (w : Words DownstreamKind) → refusal_read r l w ≡ 0 → r.ended ≡ false
  unfolding refusal_read
  unended w e = go (eqb w.refusal 0) refl e
    where
      go : (b : Bool) → eqb w.refusal 0 ≡ b → (if b then own_refusal r l (below_read r w) else w.refusal) ≡ 0 → r.ended ≡ false
      go true q z = (own-none r l _ z).unended
      go false q z = absurd (eqb-false _ _ q z)

  not-below : (f : SequenceNumber) → refusal_read r l (downstream_words (Ok (EndOfSession f))) ≡ 0 → r.next.0 ≤ f.0
  unfolding refusal_read downstream_words below_read_at end_below
  not-below f e = ltb-false _ _ (own-none r l _ e).no_end

  pub arm-of : (p : Result Downstream Refusal) → refusal_read r l (downstream_words p) ≡ 0
      → Arm r.limit.0 r.next.0 l (downstream_words p) (row_read r (downstream_words p))
  unfolding downstream_words row_read_at take_read_at tag
  arm-of (Ok (Data f c)) e =
      by_row _ _ l _ data_packet _ refl
      (rows r.limit.0 r.next.0 f.0 (numbered f.0 c.0) data_packet (λ z. let k : ◌≡◌ {A = ℕ} 0 1 = cc in absurd (omega arith)))
  arm-of (Ok (Heartbeat f)) e =
      by_row _ _ l _ heartbeat _ refl
      (rows r.limit.0 r.next.0 f.0 (numbered f.0 0) heartbeat (λ z. let k : ◌≡◌ {A = ℕ} 0 1 = cc in absurd (omega arith)))
  arm-of (Ok (EndOfSession f)) e =
      by_row _ _ l _ end_of_session _ refl
      (rows r.limit.0 r.next.0 f.0 (numbered f.0 0) end_of_session (λ z. not-below f e))
  arm-of (Err y) e = left (record { begins = omega arith; next = refl; goes_on = refl; same = λ s z. refl }) refl

-- What is promised at one datagram of the refusal, of the request and of the count.
use mathlib.Core.Path.{◌≡◌, refl, sym, ap, ◌∙◌}
use mathlib.Core.List.{List, [], ◌∷◌}
use mathlib.Core.Bool.{true, false, true≢false}
use Prim.Native.Nat.{ℕ, zero, suc, ◌+◌, ◌-◌, ◌*◌, ◌^◌, ◌≤◌, ◌<◌, min, max}
use native.Mathlib.Omega.{arith}
use native.Mathlib.Nat.{zero-div}
use lib.ListN.{length, get_or, drop, length-drop}
use lib.Dec.{ltb, eqb}
use borrow.Author.Tests.{lt-ltb, le-ltb, ltb-true, eq-eqb, ne_eqb, eqb-true}
use Rattle.std.specs.Prelude.{if◌then◌else◌}
use Rattle.wire.specs.Words.{Case, answer, refused, Injective}
use Rattle.wire.specs.declared.kinds.MessageCount.{MessageCount}
use Rattle.wire.proofs.Cases.{below_or_not, zero_or_not}
use Rattle.wire.proofs.Words.{read_back}
use Rattle.moldudp64.specs.Header.{number_of}
use Rattle.moldudp64.specs.Blocks.{block_size, after_block, all_fit}
use Rattle.moldudp64.specs.Downstream.{DownstreamKind, data_packet, heartbeat, end_of_session, kind_of, refusal_of, block_count, messages_of}
use Rattle.moldudp64.proofs.BlockLaws.{first_fits, rest-fit, sound-fit}
use Rattle.moldudp64.proofs.DownstreamLaws.{sound, count-sound}
use Rattle.receiver.specs.declared.receiver.Receiver.{Receiver}
use Rattle.receiver.specs.Table.{AnswerKind, deliver, old, quiet, ask, ended, ask_for}
use Rattle.receiver.proofs.Promises.{well-read}
use Rattle.early_word.specs.Word.{bit, run, lowest, past, word_bits}
use Rattle.early_word.proofs.WordLaws.{ones-le, zeros-clear, zeros-one}
use Rattle.early_holding.specs.declared.holding.EarlyReceiver.{EarlyReceiver}
use Rattle.early_holding.specs.Holding.{Lent, next_of, is_held, number_past, advance, take_one, take_all, move_by, move_to}
use Rattle.early_holding.proofs.HoldingLaws.{either}
use Rattle.early_receiver.specs.declared.early.Answer.{Answer}
use Rattle.early_receiver.specs.declared.early.Answer.TheVariants.{Deliver, Old, Quiet, Ahead, Ended, Refused}
use Rattle.std.specs.Prelude.{Option}
use Rattle.early_receiver.specs.declared.early.Ask.{Ask}
use Rattle.std.specs.Prelude.{Some, None}
use Rattle.early_receiver.specs.Answers.{early_words, request_words}
use Rattle.early_receiver.specs.Early.{right_size, early_refusal, named_lent, end_at, take_kind, lent_after, wanted_to, wanted, request_of}
use Rattle.early_receiver.specs.Statements.{EarlyRefusalKeeps, AsksExactlyWhen, CountsAll}
use Rattle.early_receiver.proofs.AnswerLaws.{slots-open}
use Rattle.early_receiver.proofs.KeepingLaws.{one-base, above-base, all-below}

-- ---- a refusal, and what is accepted

pub early-refusal-keeps : EarlyRefusalKeeps
unfolding EarlyRefusalKeeps lent_after request_of
early-refusal-keeps s l z = (rw (ne_eqb _ _ z), rw (ne_eqb _ _ z))

module _ (s : Lent) (l : List ℕ) (e : early_refusal s l ≡ 0) where
  pub after_open : lent_after s l ≡ take_kind (named_lent s l) (kind_of l) l
  unfolding lent_after
  after_open = rw e

  request-open : request_of s l ≡ wanted (lent_after s l).receiver (number_of l)
  unfolding request_of
  request-open = rw e

  pub well-open : refusal_of l ≡ 0
  unfolding early_refusal
  well-open = well-read s.receiver.base l (slots-open (right_size s) _ e).1

  pub size-open : right_size s ≡ true
  unfolding early_refusal
  size-open = (slots-open (right_size s) _ e).0

-- ---- the limit stays

one-limit : (s : Lent) (j : ℕ) (m : List ℕ) → (take_one s j m).receiver.base.limit ≡ s.receiver.base.limit
unfolding take_one advance
one-limit s j m = either (eqb j (next_of s.receiver)) _ (λ q. rw q) (λ q. rw q (ap (λ (r : Receiver). r.limit) (one-base s j m)))

all-limit : (ms : List (List ℕ)) (s : Lent) (f : ℕ) → (take_all s f ms).receiver.base.limit ≡ s.receiver.base.limit
unfolding take_all
all-limit [] s f = refl
all-limit (m ∷ ms) s f = all-limit ms (take_one s f m) (f + 1) ∙ one-limit s f m

kind-limit : (s : Lent) (k : DownstreamKind) (l : List ℕ) → (take_kind s k l).receiver.base.limit ≡ s.receiver.base.limit
unfolding take_kind end_at
kind-limit s data_packet l = all-limit (messages_of l) s (number_of l)
kind-limit s heartbeat l = refl
kind-limit s end_of_session l = either (eqb (number_of l) (next_of s.receiver)) _ (λ q. rw q) (λ q. rw q)

after-limit : (s : Lent) (l : List ℕ) → early_refusal s l ≡ 0 → (lent_after s l).receiver.base.limit.0 ≡ s.receiver.base.limit.0
after-limit s l e =
    ap (λ (x : Lent). x.receiver.base.limit.0) (after_open s l e) ∙ ap (λ (x : MessageCount). x.0) (kind-limit (named_lent s l) (kind_of l) l)

-- ---- the request

wants-so : (r : EarlyReceiver) (f : ℕ) → r.base.ended ≡ false → next_of r < wanted_to r f
    → wanted r f ≡ next_of r ∷ ask_for r.base.limit.0 (next_of r) (wanted_to r f) ∷ []
unfolding wanted
wants-so r f e h = rw (lt-ltb _ _ h, e)

pub bit-of-none : (k : ℕ) → bit 0 k ≡ false
unfolding bit
bit-of-none k = rw (zero-div (2 ^ k))

-- no held number lies below the lowest
lowest-held : (r : EarlyReceiver) (f j : ℕ) → is_held r j ≡ true → wanted_to r f ≤ j
unfolding is_held wanted_to
lowest-held r f j e = either (ltb (next_of r) j) _ above (λ q. absurd (true≢false (sym e ∙ rw q)))
  where
    above : ltb (next_of r) j ≡ true → (if eqb r.held.0 0 then f else next_of r + 1 + lowest r.held.0) ≤ j
    above q =
        let b : bit r.held.0 (j - next_of r - 1) ≡ true = rw q at e in
        let n : next_of r < j = ltb-true _ _ q in
        zero_or_not _ r.held.0 (λ z. absurd (true≢false (sym (rw z at b) ∙ bit-of-none (j - next_of r - 1))))
        (λ z.
        rw (ne_eqb _ _ z)
        (below_or_not _ (j - next_of r - 1) (lowest r.held.0) (λ h. absurd (true≢false (sym b ∙ zeros-clear 64 r.held.0 (j - next_of r - 1) h)))
        (λ h. omega arith)))

-- so that it is asked for, where something is held
held-above : (r : EarlyReceiver) (f j : ℕ) → is_held r j ≡ true → next_of r < wanted_to r f
unfolding is_held wanted_to
held-above r f j e = either (ltb (next_of r) j) _ above (λ q. absurd (true≢false (sym e ∙ rw q)))
  where
    above : ltb (next_of r) j ≡ true → next_of r < (if eqb r.held.0 0 then f else next_of r + 1 + lowest r.held.0)
    above q =
        let b : bit r.held.0 (j - next_of r - 1) ≡ true = rw q at e in
        zero_or_not _ r.held.0 (λ z. absurd (true≢false (sym (rw z at b) ∙ bit-of-none (j - next_of r - 1))))
        (λ z. rw (ne_eqb _ _ z) (omega arith))

-- and the lowest is held itself
lowest-itself : (r : EarlyReceiver) (f : ℕ) → r.held.0 < 2 ^ word_bits → (r.held.0 ≡ 0 → ⊥) → is_held r (wanted_to r f) ≡ true
unfolding is_held wanted_to
lowest-itself r f w z =
    let n = next_of r in
    let i = lowest r.held.0 in
    let p : n + 1 + i - n - 1 ≡ i = omega arith in
    rw (ne_eqb _ _ z) (rw (lt-ltb n (n + 1 + i) (omega arith)) (rw p (zeros-one 64 r.held.0 w z)))

nothing-wanted : (r : EarlyReceiver) (f : ℕ) → r.held.0 ≡ 0 → f ≤ next_of r → wanted r f ≡ []
unfolding wanted wanted_to
nothing-wanted r f z h = either r.base.ended _ (λ e. rw e) (λ e. rw (e, eq-eqb _ _ z, le-ltb _ _ h))

refused-wants : (s : Lent) (l : List ℕ) → (early_refusal s l ≡ 0 → ⊥) → request_of s l ≡ []
unfolding request_of
refused-wants s l z = rw (ne_eqb _ _ z)

pub asks_exactly_when : AsksExactlyWhen
asks_exactly_when =
    record {
      when_ahead = λ s l e o h.
          request-open s l e ∙ wants-so (lent_after s l).receiver (number_of l) o h
          ∙ ap (λ (k : ℕ). next_of (lent_after s l).receiver ∷ ask_for k (next_of (lent_after s l).receiver) (wanted_to (lent_after s l).receiver (number_of l)) ∷ []) (after-limit s l e);
      when_held = λ s l j e o h. lowest-held (lent_after s l).receiver (number_of l) j h;
      held_asks = held-above;
      to_a_held_one = lowest-itself;
      else_nothing = λ s l z h.
          zero_or_not _ (early_refusal s l) (λ e. request-open s l e ∙ nothing-wanted (lent_after s l).receiver (number_of l) z h) (refused-wants s l);
    }

-- ---- how far the number moves

pub move-bound : (c f n h : ℕ) → (move_by c f n h).next.0 ≤ max n (f + c + 64)
unfolding move_by number_past
move-bound zero f n h = omega arith
move-bound (suc c) f n h =
    either (eqb f n) _
    (λ q.
    let y : f ≡ n = eqb-true _ _ q in
    let t : run h ≤ 64 = ones-le 64 h in
    let b = min 18446744073709551615 (n + (run h + 1)) in
    let i : b ≤ n + (run h + 1) = omega arith in
    rw q (omega (arith, move-bound c (f + 1) b (past h (run h + 1)))))
    (λ q. rw q (omega (arith, move-bound c (f + 1) n h)))

-- a block has two bytes or more
pub fit_length : (c : ℕ) (l : List ℕ) → all_fit c l ≡ true → 2 * c ≤ length l
fit_length zero l e = omega arith
fit_length (suc c) l e =
    let g : block_size l ≤ length l = first_fits c l e in
    omega (arith, fit_length c (after_block l) (rest-fit c l e), length-drop (block_size l) l)

abbrev Little : Lent → Lent → Type 0
Little s t = next_of t.receiver - next_of s.receiver ≤ 65535

data-little : (s : Lent) (l : List ℕ) → refusal_of l ≡ 0 → Little s (take_all s (number_of l) (messages_of l))
unfolding move_to
data-little s l w =
    let c = count-sound l w in
    let o = sound l w in
    let t = fit_length (block_count l) (drop 20 l) (sound-fit _ _ o.blocks-good) in
    below_or_not _ (next_of s.receiver) (number_of l)
    (λ h. omega (arith, ap (λ (r : Receiver). r.next.0) (above-base (messages_of l) s (number_of l) h)))
    (λ h.
    let d = ap (λ (q : Lent). next_of q.receiver) (all-below s (number_of l) (messages_of l) h (omega (arith, o.numbers_fit))) in
    let b = move-bound (number_of l + length (messages_of l) - next_of s.receiver) (next_of s.receiver) (next_of s.receiver) s.receiver.held.0 in
    omega (arith, length-drop 20 l, o.short))

kind-little : (s : Lent) (k : DownstreamKind) (l : List ℕ) → refusal_of l ≡ 0 → Little s (take_kind s k l)
unfolding take_kind end_at
kind-little s data_packet l w = data-little s l w
kind-little s heartbeat l w = omega arith
kind-little s end_of_session l w = either (eqb (number_of l) (next_of s.receiver)) _ (λ q. rw q (omega arith)) (λ q. rw q (omega arith))

pub counts_all : CountsAll
unfolding CountsAll lent_after
counts_all s l =
    zero_or_not _ (early_refusal s l) (λ e. rw e (kind-little (named_lent s l) (kind_of l) l (well-open s l e))) (λ z. rw (ne_eqb _ _ z) (omega arith))

-- ---- the words tell all answers and requests apart: they read back

answered : Case AnswerKind → ℕ → List ℕ → Answer
answered (answer deliver) r vs = Deliver (record { 0 = get_or vs 0 0 }) (record { 0 = get_or vs 1 0 }) (record { 0 = get_or vs 2 0 })
answered (answer old) r vs = Old
answered (answer quiet) r vs = Quiet
answered (answer ask) r vs = Ahead
answered (answer ended) r vs = Ended
answered refused r vs = Refused (record { number = r })

pub answers_apart : Injective early_words
unfolding early_words answered
answers_apart = read_back early_words (λ w. answered w.which w.refusal w.values) back
  where
    back : (a : Answer) → answered (early_words a).which (early_words a).refusal (early_words a).values ≡ a
    back (Deliver n c s) = refl
    back Old = refl
    back Quiet = refl
    back Ahead = refl
    back Ended = refl
    back (Refused r) = refl

requested : List ℕ → Option Ask
requested [] = None
requested (n ∷ vs) = Some (record { from = record { 0 = n }; count = record { 0 = get_or vs 0 0 } })

pub requests_apart : Injective request_words
unfolding request_words requested
requests_apart = read_back request_words requested back
  where
    back : (a : Option Ask) → requested (request_words a) ≡ a
    back None = refl
    back (Some a) = refl

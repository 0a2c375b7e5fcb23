-- A receiver started, and one that took a datagram with its slots.
use Prim.Native.Nat.{ℕ, ◌+◌, ◌-◌, ◌≤◌, ◌<◌}
use mathlib.Core.List.{List, [], ◌∷◌, ◌++◌, append_assoc, append-nil}
use mathlib.Core.Bool.{true, false, not}
use mathlib.Core.Path.{◌≡◌, refl, ap, ap₂, sym, ◌∙◌}
use native.Mathlib.Omega.{arith}
use lib.ListN.{length, take, drop, length-append, length-drop, drop_of_length-le}
use lib.Seq.{drop-drop, length-take-le}
use lib.Dec.{ltb, eqb}
use borrow.Rule.Slice.PartMut.{mid_of, put_mid, put_same}
use borrow.Author.Tests.{ne_eqb, eq-eqb, lt-ltb, le-ltb, not-false}
use Rattle.wire.specs.Bounds.{session_size, blank}
use Rattle.wire.specs.Bytes.{same_bytes}
use Rattle.wire.specs.Refusals.{bad_setting}
use Rattle.wire.specs.Parts.{first_bytes}
use Rattle.wire.specs.Output.{put}
use Rattle.std.specs.Prelude.{⊤, Result, Ok, Err}
use Rattle.wire.specs.Words.{Words, Case, answer, refused, refused_by}
use Rattle.wire.proofs.Refusing.{checked, ground-of, has-ground}
use Rattle.wire.proofs.Cases.{zero_or_not}
use Rattle.wire.proofs.PartLaws.{name-ten}
use Rattle.wire.proofs.Numbers.{part_to_end}
use Rattle.wire.proofs.Outputs.{length-put, put-room, put-put}
use Rattle.wire.specs.declared.refusal.Refusal.{Refusal}
use Rattle.moldudp64.specs.declared.downstream.Downstream.{Downstream}
use Rattle.moldudp64.specs.Header.{number_of}
use Rattle.moldudp64.specs.Downstream.{DownstreamKind, data_packet, heartbeat, end_of_session, kind_of, messages_of, refusal_of, downstream_of, downstream_words}
use Rattle.moldudp64.proofs.DownstreamLaws.{refusal-found, read_well}
use Rattle.receiver.specs.Table.{AnswerKind, deliver, old, quiet, ask, ended}
use Rattle.receiver.specs.Receiver.{receiver_start_refusal, name_by, refusal_for, table_row}
use Rattle.early_holding.specs.declared.holding.EarlyReceiver.{EarlyReceiver}
use Rattle.early_holding.specs.Holding.{Lent, lent, next_of}
use Rattle.early_holding.proofs.HoldingLaws.{either}
use Rattle.early_receiver.specs.declared.early.Taken.{Taken}
use Rattle.early_receiver.specs.declared.early.Settled.{Settled}
use Rattle.early_receiver.specs.Answers.{early_words, request_words}
use Rattle.early_receiver.specs.Early.{right_size, with_slots, start_early, early_refusal, named_lent, end_at, take_kind, lent_after, request_of, answer_by, early_answer}
use Rattle.early_receiver.specs.Read.{early_refusal_read, TakesEarlyRead}
use Rattle.early_receiver.specs.Statements.{EarlyRefusalKeeps}
use Rattle.early_receiver.specs.Settled.{Settles}
use Rattle.early_receiver.proofs.ReadLaws.{early-read-as-whole}
use Rattle.early_receiver.proofs.Promises.{early-promises}
use Rattle.early_condition_3.proofs.StepLaws.{same_base}
use Rattle.host_answers.specs.Answers.{or_else, short, on_success, unless_sized, state_ladder, is_one_of, said_refusal, said_values, RefusesOnly, AnswersWith}
use Rattle.host_answers.proofs.OnlyLaws.{only_if, only-state, only-within, within, answers-only}
use Rattle.host_cursor.proofs.DatagramLaws.{datagram_grounds, datagram-only, unread-ground, unread-is}
use Rattle.host_receiver.proofs.RefusalLaws.{take_grounds, receiver-only}
use Rattle.host_answers.proofs.AnswerLaws.{or-first, or-next, or-none, length-padded}
use Rattle.host_states.specs.States.{on_code}
use Rattle.host_states.proofs.StateLaws.{laid-front}
use Rattle.host_receiver.specs.Replies.{answer_number}
use Rattle.host_receiver.proofs.SaidLaws.{length-words}
use Rattle.host_early.specs.Early.{early_size, kept, early_in, lent_in, no_lengths, KeepsKept, LaysHead}
use Rattle.host_early.specs.Replies.{row_words, ask_words, said_words}
use Rattle.host_early.proofs.EarlyLaws.{early-ten, lengths-long, lengths-few, kept-laid, kept-not}
use Rattle.exports_early.specs.Calls.{StartsKeeper, kept_after, TakesLent, Answered}

pub starts-keeper : (s name : List ℕ) (n limit g h : ℕ) (x : EarlyReceiver) (r : ℕ) (l m : List ℕ) → name ≡ first_bytes session_size s → h ≡ receiver_start_refusal n limit
    → x ≡ start_early name n limit → g ≡ unless_sized (length s) session_size bad_setting h → r ≡ or_else g (short (ltb (length l) early_size))
    → KeepsKept (on_code r) l m (kept x no_lengths) → StartsKeeper r s n limit l m
starts-keeper s name n limit g h x r l m a b c e f k = record { returns = f ∙ rw (e, b); keeps = rw (← a, ← c) k }

-- ---- parts that are lent

-- a part that comes back with as many bytes is laid at its place
mid-put : (l ys : List ℕ) (a k : ℕ) → a + k ≤ length l → length ys ≡ k → put_mid a k l ys ≡ put l a ys
mid-put l ys a k h e =
    let room : a + length ys ≤ length l = omega arith in
    let far : a + k ≡ a + length ys = omega arith in
    let deep : drop k (drop a l) ≡ drop (a + length ys) l = drop-drop k a l ∙ ap (λ (n : ℕ). drop n l) far in
    rw deep (sym (append_assoc (take a l) ys (drop (a + length ys) l)) ∙ sym (put-room l a ys room))

-- as it was, it changes nothing
same-put : (l : List ℕ) → 157 ≤ length l → put l 29 (take 128 (drop 29 l)) ≡ l
same-put l h = sym (mid-put l (take 128 (drop 29 l)) 29 128 (omega arith) (length-take-le 128 (drop 29 l) (omega (arith, length-drop 29 l)))) ∙ put_same 29 128 l

-- bytes laid in front of a part that goes on to the end
end-put : (l bs ys : List ℕ) (a : ℕ) → a + length bs ≤ length l → ys ≡ put (mid_of a (length l - a) l) 0 bs → put_mid a (length l - a) l ys ≡ put l a bs
end-put l bs ys a h e =
    let size : length (drop a l) ≡ length l - a = length-drop a l in
    let rest : drop (length l - a) (drop a l) ≡ [] = drop_of_length-le (drop a l) {i = length l - a} (omega arith) in
    let inner : put (drop a l) 0 bs ≡ bs ++ drop (length bs) (drop a l) = laid-front (drop a l) bs (omega arith) in
    let deep : drop (length bs) (drop a l) ≡ drop (a + length bs) l = drop-drop (length bs) a l in
    rw (rest, append-nil ys, e, part_to_end a l, inner, deep) (sym (append_assoc (take a l) bs (drop (a + length bs) l)) ∙ sym (put-room l a bs h))

-- ---- words

-- the answer's refusal is the ladder's
by_row : (c : Case AnswerKind) (n f k : ℕ) → (answer_by c n f k).refusal ≡ 0
unfolding answer_by
by_row (answer deliver) n f k = refl
by_row (answer old) n f k = refl
by_row (answer quiet) n f k = refl
by_row (answer ask) n f k = refl
by_row (answer ended) n f k = refl
by_row refused n f k = refl

pub said-refusal : (s : Lent) (d : List ℕ) → (early_answer s d).refusal ≡ early_refusal s d
unfolding early_answer
said-refusal s d =
    zero_or_not _ (early_refusal s d)
    (λ z. rw (eq-eqb _ 0 z) (by_row (table_row s.receiver.base d).reply.which (next_of s.receiver) (number_of d) (next_of (lent_after s d).receiver) ∙ sym z))
    (λ z. rw (ne_eqb _ 0 z) refl)

length-row : (w : Words AnswerKind) → length (row_words w) ≡ 4
length-row w = length-words answer_number 4 w.which w.values

length-ask : (vs : List ℕ) → length (ask_words vs) ≡ 3
unfolding ask_words
length-ask [] = length-padded 3 []
length-ask (v ∷ vs) = length-padded 3 (1 ∷ v ∷ vs)

pub length-said : (w : Words AnswerKind) (vs : List ℕ) → length (said_words w vs) ≡ 7
length-said w vs = length-append (row_words w) (ask_words vs) ∙ omega (arith, length-row w, length-ask vs)

-- ---- `keep`: x is what was taken, q its refusal, row and asked its words

module _ (x : Taken) (l ws ws₁ row : List ℕ) (q c : ℕ) (eq : q ≡ (early_words x.answer).refusal) (er : row ≡ row_words (early_words x.answer))
    (room : 7 ≤ length ws) (a : AnswersWith c ws ws₁ q row) where
  code_is : c ≡ q
  unfolding short
  code_is = a.returns ∙ rw (er, length-row (early_words x.answer), le-ltb (length ws) 4 (omega arith)) (sym (or-none q))

  pub keep-refused : (c ≡ 0 → ⊥) → Answered c l l ws ws₁ x
  unfolding on_success
  keep-refused z =
      record {
        returns = code_is ∙ eq;
        words = a.words ∙ rw (ne_eqb c 0 z) refl;
        lays = λ y. absurd (z y);
        stays = λ y. refl;
      }

  pub keep-done : (m ws₂ asked : List ℕ) (b : ℕ) → c ≡ 0 → asked ≡ ask_words (request_words x.request)
      → AnswersWith b (mid_of 4 (length ws₁ - 4) ws₁) ws₂ (said_refusal (Ok asked)) (said_values 3 (Ok asked)) → LaysHead l m x.receiver
      → Answered c l m ws (put_mid 4 (length ws₁ - 4) ws₁ ws₂) x
  unfolding on_success short said_refusal said_values
  keep-done m ws₂ asked b z e w d =
      let n = length-row (early_words x.answer) in
      let k : length asked ≡ 3 = ap length e ∙ length-ask (request_words x.request) in
      let one : ws₁ ≡ put ws 0 row = rw (eq-eqb c 0 z) at a.words in
      let size : length ws₁ ≡ length ws = ap length one ∙ length-put ws 0 row in
      let part : length (mid_of 4 (length ws₁ - 4) ws₁) ≡ length ws₁ - 4 = ap length (part_to_end 4 ws₁) ∙ length-drop 4 ws₁ in
      let zero : b ≡ 0 = w.returns ∙ rw (le-ltb (length (mid_of 4 (length ws₁ - 4) ws₁)) (length asked) (omega arith)) (sym (or-next 0 0 refl)) in
      let two : ws₂ ≡ put (mid_of 4 (length ws₁ - 4) ws₁) 0 asked = rw (eq-eqb b 0 zero) at w.words in
      let laid : put_mid 4 (length ws₁ - 4) ws₁ ws₂ ≡ put ws₁ 4 asked = end-put ws₁ asked ws₂ 4 (omega arith) two in
      let four : length row ≡ 4 = ap length er ∙ n in
      let both : put (put ws 0 row) (0 + length row) asked ≡ put ws 0 (row ++ asked) = put-put ws 0 row asked (omega arith) in
      record {
        returns = code_is ∙ eq;
        words = rw (eq-eqb c 0 z) (laid ∙ rw one ((rw four at both) ∙ ap₂ (λ (u v : List ℕ). put ws 0 (u ++ v)) er e));
        lays = λ y. d;
        stays = λ y. absurd (y z);
      }

-- ---- the refusal before anything is taken

refuse-so : (l ss d : List ℕ) (p : Result Downstream Refusal) (r : EarlyReceiver) (e : downstream_words p ≡ downstream_of d) (h : 157 ≤ length l) (i : r ≡ early_in l)
    (k : ℕ) → k ≡ early_refusal_read (lent r (mid_of 29 128 l) ss) d (downstream_words p) → k ≡ early_refusal (lent_in l ss) d
refuse-so l ss d p r e h i k f =
    let n : lent r (mid_of 29 128 l) ss ≡ lent_in l ss = ap₂ (λ (a : EarlyReceiver) (b : List ℕ). lent a b ss) i (sym (lengths-long l h)) in
    f ∙ rw (n, e) (early-read-as-whole.refuses (lent_in l ss) d)

-- its check passed: what is left is 41, or it is the refusal
module _ (l ss d : List ℕ) (p : Result Downstream Refusal) (r : EarlyReceiver) (e : downstream_words p ≡ downstream_of d) (h : 157 ≤ length l) (i : r ≡ early_in l)
    (c : Result ⊤ Refusal) (f : c ≡ refused_by (early_refusal_read (lent r (mid_of 29 128 l) ss) d (downstream_words p))) where
  pub refuse-words : (u : ⊤) → c ≡ Ok u → 41 ≡ or_else (early_refusal (lent_in l ss) d) 41
  refuse-words u k = or-next _ 41 (sym (refuse-so l ss d p r e h i _ refl) ∙ checked _ _ _ f k)

  pub refuse-own : (x : Refusal) → c ≡ Err x → x.number ≡ or_else (early_refusal (lent_in l ss) d) 41
  refuse-own x k =
      let own = refuse-so l ss d p r e h i _ refl in
      let same = ground-of _ _ _ f k ∙ own in
      same ∙ or-first _ 41 (λ y. has-ground _ _ _ f k (own ∙ y))

-- ---- a datagram d, which the reader read as p, at a state that is long enough

-- the receiver and the lengths after a datagram have their size
name-after : (s : Lent) (k : DownstreamKind) (d : List ℕ) → (take_kind s k d).receiver.base.session ≡ s.receiver.base.session
unfolding take_kind end_at
name-after s data_packet d = (same_base s (number_of d) (messages_of d)).session
name-after s heartbeat d = refl
name-after s end_of_session d = either (eqb (number_of d) (next_of s.receiver)) _ (λ q. rw q refl) (λ q. rw q refl)

name-stays : (s : Lent) (d : List ℕ) → length s.receiver.base.session ≡ session_size → length (lent_after s d).receiver.base.session ≡ session_size
unfolding lent_after name_by
name-stays s d ten =
    zero_or_not _ (early_refusal s d)
    (λ z. rw (eq-eqb _ 0 z) (ap length (name-after (named_lent s d) (kind_of d) d)
    ∙ either (same_bytes s.receiver.base.session blank) _ (λ q. rw q (name-ten d)) (λ q. rw q ten)))
    (λ z. rw (ne_eqb _ 0 z) ten)

after-ten : (l ss d : List ℕ) → length (lent_after (lent_in l ss) d).receiver.base.session ≡ session_size
after-ten l ss d = name-stays (lent_in l ss) d (early-ten l)

after-few : (l ss d : List ℕ) → length (lent_after (lent_in l ss) d).lengths ≡ 128
after-few l ss d = early-promises.only_held_bytes_change.lengths_stay (lent_in l ss) d ∙ lengths-few l

pub not-kept : (l ss d : List ℕ) (r : ℕ) → (r ≡ 0 → ⊥) → KeepsKept (on_code r) l l (kept_after l ss d)
not-kept l ss d r z = kept-not (lent_after (lent_in l ss) d).receiver (lent_after (lent_in l ss) d).lengths l (after-ten l ss d) (after-few l ss d) r z

module _ (d l ss ws : List ℕ) (p : Result Downstream Refusal) (e : downstream_words p ≡ downstream_of d) where
  pub takes-unread : (x : Refusal) → p ≡ Err x → TakesLent x.number l l ss ss d ws ws
  unfolding on_success
  takes-unread x f =
      let unread = unread-ground d p e x f in
      let z = unread-is d p e x f in
      let n : refusal_of d ≡ 0 → ⊥ = λ y. z (unread ∙ y) in
      let vs = said_words (early_answer (lent_in l ss) d) (request_of (lent_in l ss) d) in
      let first : refusal_of d ≡ state_ladder (refusal_of d) (ltb (length l) 157) (early_refusal (lent_in l ss) d) = or-first (refusal_of d) _ n in
      record {
        answers = record { returns = unread ∙ or-first (refusal_of d) (short (ltb (length ws) (length vs))) n ∙ ap (λ (g : ℕ). or_else g (short (ltb (length ws) (length vs)))) first; words = rw (ne_eqb _ _ z) refl };
        keeps = not-kept l ss d x.number z;
        slots = rw (ne_eqb _ _ z) refl;
      }

  pub takes-short : (y : Downstream) → p ≡ Ok y → length l < 157 → TakesLent 41 l l ss ss d ws ws
  unfolding on_success or_else short
  takes-short y f h =
      record {
        answers = record { returns = rw (read_well d p e y f, lt-ltb (length l) 157 h) refl; words = refl };
        keeps = not-kept l ss d 41 (λ n. omega arith);
        slots = refl;
      }

-- with a state that is long enough the ladder is the receiver's own
module _ (d l ss : List ℕ) (p : Result Downstream Refusal) (e : downstream_words p ≡ downstream_of d) (none : (downstream_words p).refusal ≡ 0) (room : 157 ≤ length l) where
  well : refusal_of d ≡ 0
  well = sym (refusal-found d p _ refl e) ∙ none

  ladder-is : early_refusal (lent_in l ss) d ≡ state_ladder (refusal_of d) (ltb (length l) 157) (early_refusal (lent_in l ss) d)
  unfolding short
  ladder-is = rw (le-ltb (length l) 157 room) (or-next 0 _ refl ∙ or-next (refusal_of d) _ well)

  -- too few words
  pub takes-few : (ws : List ℕ) (r : ℕ) → length ws < 7 → r ≡ or_else (early_refusal (lent_in l ss) d) 41 → TakesLent r l l ss ss d ws ws
  unfolding on_success short
  takes-few ws r h g =
      let vs = said_words (early_answer (lent_in l ss) d) (request_of (lent_in l ss) d) in
      let n : length vs ≡ 7 = length-said (early_answer (lent_in l ss) d) (request_of (lent_in l ss) d) in
      let z : r ≡ 0 → ⊥ = λ y. zero_or_not _ (early_refusal (lent_in l ss) d) (λ q. let w : 41 ≡ 0 = or-next _ 41 q ∙ sym g ∙ y in omega arith) (λ q. q (or-first _ 41 q ∙ sym g ∙ y)) in
      record {
        answers = record { returns = g ∙ rw (← ladder-is, n, lt-ltb (length ws) 7 h) refl; words = rw (ne_eqb r 0 z) refl };
        keeps = not-kept l ss d r z;
        slots = rw (ne_eqb r 0 z) refl;
      }

  -- what was taken, by slots st and lengths lt that are left
  module _ (ws : List ℕ) (enough : 7 ≤ length ws) (x : Taken) (lt st : List ℕ) (t : TakesEarlyRead x lt st (lent_in l ss) d (downstream_words p)) where
    whole-answer : early_words x.answer ≡ early_answer (lent_in l ss) d
    whole-answer = t.answers ∙ rw e (early-read-as-whole.answers (lent_in l ss) d)

    whole-request : request_words x.request ≡ request_of (lent_in l ss) d
    whole-request = t.asks ∙ rw e (early-read-as-whole.asks (lent_in l ss) d)

    whole-after : lent x.receiver lt st ≡ lent_after (lent_in l ss) d
    whole-after = t.leaves ∙ rw e (early-read-as-whole.leaves (lent_in l ss) d)

    refusal_is : (early_words x.answer).refusal ≡ early_refusal (lent_in l ss) d
    refusal_is = ap (λ (w : Words AnswerKind). w.refusal) whole-answer ∙ said-refusal (lent_in l ss) d

    -- l₁ are the bytes with the lengths that are left
    takes-so : (r : ℕ) (l₁ m ws' : List ℕ) → l₁ ≡ put l 29 lt → Answered r l₁ m ws ws' x → TakesLent r l m ss st d ws ws'
    unfolding on_success short EarlyRefusalKeeps
    takes-so r l₁ m ws' q b =
        let vs = said_words (early_answer (lent_in l ss) d) (request_of (lent_in l ss) d) in
        let n : length vs ≡ 7 = length-said (early_answer (lent_in l ss) d) (request_of (lent_in l ss) d) in
        let own : r ≡ early_refusal (lent_in l ss) d = b.returns ∙ refusal_is in
        let few : length lt ≡ 128 = ap (λ (y : Lent). length y.lengths) whole-after ∙ after-few l ss d in
        record {
          answers = record {
            returns = own ∙ rw (← ladder-is, n, le-ltb (length ws) 7 enough) (or-none (early_refusal (lent_in l ss) d));
            words = b.words ∙ rw (whole-answer, whole-request) refl;
          };
          keeps = zero_or_not _ r
              (λ z. rw (eq-eqb r 0 z)
              (rw (sym (ap (λ (y : Lent). kept y.receiver y.lengths) whole-after))
              (kept-laid x.receiver lt l (ap (λ (y : Lent). length y.receiver.base.session) whole-after ∙ after-ten l ss d) few l₁ m room q (b.lays z))))
              (λ z. rw (unchanged z) (not-kept l ss d r z));
          slots = zero_or_not _ r (λ z. rw (eq-eqb r 0 z) (ap (λ (y : Lent). y.slots) whole-after))
              (λ z. rw (ne_eqb r 0 z) (ap (λ (y : Lent). y.slots) (refused-same z)));
        }
      where
        refused-same : (r ≡ 0 → ⊥) → lent x.receiver lt st ≡ lent_in l ss
        refused-same z = whole-after ∙ (early-promises.refusal_keeps (lent_in l ss) d (λ y. z (b.returns ∙ refusal_is ∙ y))).0

        unchanged : (r ≡ 0 → ⊥) → m ≡ l
        unchanged z =
            let same : lt ≡ take 128 (drop 29 l) = ap (λ (y : Lent). y.lengths) (refused-same z) ∙ lengths-long l room in
            b.stays z ∙ q ∙ rw same (same-put l room)

    -- the lengths were lent as a part of the bytes
    pub takes-lent : (r : ℕ) (m ws' : List ℕ) → Answered r (put_mid 29 128 l lt) m ws ws' x → TakesLent r l m ss st d ws ws'
    takes-lent r m ws' b =
        let few : length lt ≡ 128 = ap (λ (y : Lent). length y.lengths) whole-after ∙ after-few l ss d in
        takes-so r (put_mid 29 128 l lt) m ws' (mid-put l lt 29 128 (omega arith) few) b

-- with the receiver and the lengths as the code has them
module _ (d l ss : List ℕ) (p : Result Downstream Refusal) (e : downstream_words p ≡ downstream_of d) (none : (downstream_words p).refusal ≡ 0) (room : 157 ≤ length l)
    (q : EarlyReceiver) (is : q ≡ early_in l) (ws : List ℕ) (enough : 7 ≤ length ws) (x : Taken) where
  same-lent : lent q (take 128 (drop 29 l)) ss ≡ lent_in l ss
  same-lent = ap₂ (λ (a : EarlyReceiver) (b : List ℕ). lent a b ss) is (sym (lengths-long l room))

  pub takes-there : (lt st : List ℕ) (r : ℕ) (m ws' : List ℕ) → TakesEarlyRead x lt st (lent q (mid_of 29 128 l) ss) d (downstream_words p)
      → Answered r (put_mid 29 128 l lt) m ws ws' x → TakesLent r l m ss st d ws ws'
  takes-there lt st r m ws' t b = takes-lent d l ss p e none room ws enough x lt st (rw same-lent at t) r m ws' b

  -- nothing was lent
  pub takes-settled : (y : Settled) (r : ℕ) (m ws' : List ℕ) → Settles y q d (downstream_words p) → not y.applies ≡ false → length ss ≡ 65536 → y.taken ≡ x
      → Answered r l m ws ws' x → TakesLent r l m ss ss d ws ws'
  takes-settled y r m ws' t n h i b =
      let few : length (take 128 (drop 29 l)) ≡ 128 = ap length (sym (lengths-long l room)) ∙ lengths-few l in
      let right : right_size (lent q (take 128 (drop 29 l)) ss) ≡ true = rw (eq-eqb _ _ h, eq-eqb _ _ few) refl in
      let u : TakesEarlyRead x (take 128 (drop 29 l)) ss (lent q (take 128 (drop 29 l)) ss) d (downstream_words p) = rw i at (t.takes (not-false y.applies n) (take 128 (drop 29 l)) ss right) in
      takes-so d l ss p e none room ws enough x (take 128 (drop 29 l)) ss (rw same-lent at u) r l m ws' (sym (same-put l room)) b

-- ---- the refusals

abbrev take_list : List ℕ
take_list = 11 ∷ 12 ∷ 13 ∷ 14 ∷ 15 ∷ 16 ∷ 17 ∷ 18 ∷ 19 ∷ 20 ∷ 41 ∷ []

pub own-only : (s : Lent) (d : List ℕ) → RefusesOnly (early_refusal s d) take_list
unfolding early_refusal with_slots is_one_of within
own-only s d =
    let k = only-within (refusal_for s.receiver.base d) take_grounds take_list (receiver-only s.receiver.base d (only-within (refusal_of d) datagram_grounds take_grounds (datagram-only d) refl)) refl in
    only_if (right_size s) _ _ take_list k (only_if (eqb (refusal_for s.receiver.base d) 0) 19 _ take_list refl (only_if (ltb 19 (refusal_for s.receiver.base d)) 19 _ take_list refl k))

pub takes-only : (r : ℕ) (l m ss st d ws ws' : List ℕ) → TakesLent r l m ss st d ws ws' → RefusesOnly r (11 ∷ 12 ∷ 13 ∷ 14 ∷ 15 ∷ 16 ∷ 17 ∷ 18 ∷ 19 ∷ 20 ∷ 41 ∷ [])
unfolding is_one_of within
takes-only r l m ss st d ws ws' t =
    answers-only r _ ws ws' _ take_list t.answers
    (only-state (refusal_of d) (ltb (length l) 157) (early_refusal (lent_in l ss) d) take_list (only-within (refusal_of d) datagram_grounds take_list (datagram-only d) refl) (own-only (lent_in l ss) d) refl) refl

pub unread-only : (d : List ℕ) (p : Result Downstream Refusal) (x : Refusal) → downstream_words p ≡ downstream_of d → p ≡ Err x
    → RefusesOnly x.number (11 ∷ 12 ∷ 13 ∷ 14 ∷ 15 ∷ 16 ∷ 17 ∷ 18 ∷ 19 ∷ 20 ∷ 41 ∷ [])
unfolding is_one_of within
unread-only d p x e f = rw (unread-ground d p e x f) (only-within (refusal_of d) datagram_grounds take_list (datagram-only d) refl)

pub short-only : RefusesOnly 41 (11 ∷ 12 ∷ 13 ∷ 14 ∷ 15 ∷ 16 ∷ 17 ∷ 18 ∷ 19 ∷ 20 ∷ 41 ∷ [])
unfolding is_one_of
short-only = refl

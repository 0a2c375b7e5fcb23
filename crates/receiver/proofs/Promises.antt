-- What the receiver promises at one datagram: the table, the request, the number, the settings.
use mathlib.Core.Path.{◌≡◌, refl, ap, sym, ◌∙◌}
use mathlib.Core.List.{List, [], ◌∷◌}
use mathlib.Core.Bool.{Bool, true, false, true≢false}
use Prim.Native.Nat.{ℕ, ◌+◌, ◌≤◌, ◌<◌}
use native.Mathlib.Omega.{arith}
use lib.ListN.{length, take, get_or}
use lib.Dec.{eqb}
use borrow.Author.Tests.{lt-ltb, le-ltb, ltb-false, eqb-true, eqb-false, ne_eqb}
use Rattle.std.specs.Prelude.{if◌then◌else◌}
use Rattle.wire.specs.Bounds.{blank}
use Rattle.wire.specs.Parts.{first_bytes}
use Rattle.wire.specs.Words.{Case, Words, answer, refused, refuses, Injective}
use Rattle.wire.proofs.Cases.{below_or_not, zero_or_not}
use Rattle.wire.proofs.Words.{which-of, values-of, read_back}
use Rattle.moldudp64.specs.Header.{number_of, count_of}
use Rattle.moldudp64.specs.Downstream.{DownstreamKind, data_packet, heartbeat, end_of_session, kind_of, refusal_of}
use Rattle.moldudp64.specs.Request.{request_ground}
use Rattle.moldudp64.proofs.DownstreamLaws.{sound, kind-blocks}
use Rattle.moldudp64.proofs.RequestLaws.{ground-good}
use Rattle.receiver.specs.declared.receiver.Receiver.{Receiver}
use Rattle.receiver.specs.declared.receiver.Answer.{Answer}
use Rattle.receiver.specs.declared.receiver.Answer.TheVariants.{Deliver, Old, Quiet, Ask, Ended, Refused}
use Rattle.receiver.specs.Table.{AnswerKind, deliver, old, quiet, ask, ended, Outcome, Row, data_reaches, data_below, heartbeat_below, heartbeat_there, any_above, end_there, answer_words, ask_for, deliver_outcome, old_outcome, quiet_outcome, ask_outcome, ended_outcome, table}
use Rattle.receiver.specs.Receiver.{receiver_start_refusal, name_by, other_session, end_below, own_refusal, refusal_for, table_row, answer_of, receiver_after}
use Rattle.receiver.specs.Statements.{FollowsTheTable, RequestExactlyWhen, RefusesOtherSessions, RefusesOnceEnded, NumberNeverFalls, AskIsARequest, StaysGood, LearnsName, KeepsSettings, ReceiverPromises}
use Rattle.receiver.proofs.StartLaws.{in_bounds, start-good}
use Rattle.wire.specs.Bytes.{same_bytes}
use Rattle.wire.proofs.PartLaws.{name-ten}
use Rattle.wire.proofs.Same.{alike}
use Rattle.receiver.proofs.LadderLaws.{other_name, own_name, blank-other, blank-own, blank-named}
use Rattle.receiver.proofs.TableLaws.{refused-stays, row-answer, row-after, row_named}

-- ---- the table is its rows; at an end of session n isn't above f

module _ (limit n f c : ℕ) where
  pub row-above : (k : DownstreamKind) → n < f → table limit n k f c ≡ ask_outcome limit n f
  unfolding table
  row-above data_packet h = rw (lt-ltb _ _ h)
  row-above heartbeat h = rw (lt-ltb _ _ h)
  row-above end_of_session h = rw (lt-ltb _ _ h)

  pub row-reaches : f ≤ n → n < f + c → table limit n data_packet f c ≡ deliver_outcome n f c
  unfolding table
  row-reaches h i = rw (le-ltb _ _ h, lt-ltb _ _ i)

  pub row_below : f + c ≤ n → table limit n data_packet f c ≡ old_outcome n
  unfolding table
  row_below i = let h : f ≤ n = omega arith in rw (le-ltb _ _ h, le-ltb _ _ i)

  pub row-beat-below : f < n → table limit n heartbeat f c ≡ old_outcome n
  unfolding table
  row-beat-below i = let h : f ≤ n = omega arith in rw (le-ltb _ _ h, lt-ltb _ _ i)

  pub row-beat-at : f ≡ n → table limit n heartbeat f c ≡ quiet_outcome n
  unfolding table
  row-beat-at e = let h : f ≤ n = omega arith in let i : n ≤ f = omega arith in rw (le-ltb _ _ h, le-ltb _ _ i)

  pub row-end : f ≤ n → table limit n end_of_session f c ≡ ended_outcome n
  unfolding table
  row-end h = rw (le-ltb _ _ h)

  pub rows : (k : DownstreamKind) → (k ≡ end_of_session → n ≤ f) → Row limit n k f c (table limit n k f c)
  rows k g = below_or_not _ n f (λ h. any_above h (row-above k h)) (λ h. at-or-below k g h)
    where
      at-or-below : (k : DownstreamKind) → (k ≡ end_of_session → n ≤ f) → f ≤ n → Row limit n k f c (table limit n k f c)
      at-or-below data_packet g h = below_or_not _ n (f + c) (λ i. data_reaches refl h i (row-reaches h i)) (λ i. data_below refl i (row_below i))
      at-or-below heartbeat g h =
          below_or_not _ f n (λ i. heartbeat_below refl i (row-beat-below i)) (λ i. let e : f ≡ n = omega arith in heartbeat_there refl e (row-beat-at e))
      at-or-below end_of_session g h = let i = g refl in let e : f ≡ n = omega arith in end_there refl e (row-end h)

-- ---- an accepted datagram: an end of session isn't below n

-- a datagram that is not refused was found sound, and no rung of the receiver's own applies
record Open (r : Receiver) (l : List ℕ) : Type 0 where
  well : refusal_of l ≡ 0
  own : own_refusal r l (end_below (kind_of l) (number_of l) r.next.0) ≡ 0

open-so : (r : Receiver) (l : List ℕ) → refusal_for r l ≡ 0 → Open r l
unfolding refusal_for
open-so r l e = go (eqb (refusal_of l) 0) refl e
  where
    go : (a : Bool) → eqb (refusal_of l) 0 ≡ a → (if a then own_refusal r l (end_below (kind_of l) (number_of l) r.next.0) else refusal_of l) ≡ 0 → Open r l
    go true x z = record { well = eqb-true _ _ x; own = z }
    go false x z = absurd (eqb-false _ _ x z)

pub well-read : (r : Receiver) (l : List ℕ) → refusal_for r l ≡ 0 → refusal_of l ≡ 0
well-read r l e = (open-so r l e).well

pub record NoRung (r : Receiver) (l : List ℕ) (t : Bool) : Type 0 where
  pub its_session : other_session r l ≡ false
  pub unended : r.ended ≡ false
  pub no_end : t ≡ false

pub own-none : (r : Receiver) (l : List ℕ) (t : Bool) → own_refusal r l t ≡ 0 → NoRung r l t
unfolding own_refusal
own-none r l t e =
    let g = go (other_session r l) r.ended t e in
    record { its_session = g.0; unended = g.1.0; no_end = g.1.1 }
  where
    go : (b d t : Bool) → ◌≡◌ {A = ℕ} (if b then 17 else if d then 18 else if t then 20 else 0) 0 → (b ≡ false) × ((d ≡ false) × (t ≡ false))
    go true d t z = absurd (omega arith)
    go false true t z = absurd (omega arith)
    go false false true z = absurd (omega arith)
    go false false false z = (refl, (refl, refl))

-- the name of a datagram that names
pub names-it : (r : Receiver) (l : List ℕ) → refusal_for r l ≡ 0 → r.session ≡ blank → take 10 l ≡ blank → ⊥
names-it r l e b = blank-named r l b (own-none r l _ (open-so r l e).own).its_session

not-below : (r : Receiver) (l : List ℕ) → refusal_for r l ≡ 0 → kind_of l ≡ end_of_session → r.next.0 ≤ number_of l
unfolding end_below
not-below r l e k = ltb-false _ _ (rw k at (own-none r l _ (open-so r l e).own).no_end)

pub row_of : (r : Receiver) (l : List ℕ) → refusal_for r l ≡ 0 → Row r.limit.0 r.next.0 (kind_of l) (number_of l) (count_of l) (table_row r l)
row_of r l e = rows r.limit.0 r.next.0 (number_of l) (count_of l) (kind_of l) (not-below r l e)

pub refused-answers : (r : Receiver) (l : List ℕ) → (refusal_for r l ≡ 0 → ⊥) → answer_of r l ≡ refuses (refusal_for r l)
unfolding answer_of
refused-answers r l z = rw (ne_eqb _ _ z)

follows_the_table : FollowsTheTable answer_of receiver_after
follows_the_table =
    record {
      refused = λ r l z. record { its_number = refused-answers r l z; unchanged = sym (refused-stays r l (refusal_for r l) refl z) };
      accepts = λ r l e. record { outcome = table_row r l; its_row = row_of r l e; its_answer = row-answer r l e; its_receiver = row-after r l e };
    }

-- ---- the ladder, a rung each

pub ladder-bad : (r : Receiver) (d : List ℕ) → (refusal_of d ≡ 0 → ⊥) → refusal_for r d ≡ refusal_of d
unfolding refusal_for
ladder-bad r d z = rw (ne_eqb _ _ z)

pub ladder-other : (r : Receiver) (d : List ℕ) → refusal_of d ≡ 0 → other_session r d ≡ true → refusal_for r d ≡ 17
unfolding refusal_for own_refusal
ladder-other r d w o = rw (w, o)

pub ladder-ended : (r : Receiver) (d : List ℕ) → refusal_of d ≡ 0 → other_session r d ≡ false → r.ended ≡ true → refusal_for r d ≡ 18
unfolding refusal_for own_refusal
ladder-ended r d w o e = rw (w, o, e)

pub ladder-open : (r : Receiver) (d : List ℕ) → refusal_of d ≡ 0 → other_session r d ≡ false → r.ended ≡ false
    → end_below (kind_of d) (number_of d) r.next.0 ≡ false → refusal_for r d ≡ 0
unfolding refusal_for own_refusal
ladder-open r d w o e b = rw (w, o, e, b)

-- what is accepted by a receiver is accepted by one at the same number whose session it has
pub also-open : (r q : Receiver) (d : List ℕ) → refusal_for r d ≡ 0 → q.next ≡ r.next → q.ended ≡ r.ended → other_session q d ≡ false → refusal_for q d ≡ 0
also-open r q d e n f o =
    let w = open-so r d e in
    let k = own-none r d _ w.own in
    ladder-open q d w.well o (f ∙ k.unended) (rw n k.no_end)

-- ---- an ended receiver: one of these three rungs

ended-stays : (r : Receiver) (l : List ℕ) → r.ended ≡ true → receiver_after r l ≡ r
ended-stays r l e = zero_or_not _ (refusal_for r l) open-still (λ z. sym (refused-stays r l (refusal_for r l) refl z))
  where
    open-still : refusal_for r l ≡ 0 → receiver_after r l ≡ r
    open-still z = absurd (true≢false (sym e ∙ (own-none r l _ (open-so r l z).own).unended))

by-ladder : (r : Receiver) (l : List ℕ) (k : ℕ) → refusal_for r l ≡ k → (k ≡ 0 → ⊥) → answer_of r l ≡ refuses k
by-ladder r l k e z = rw (← e) (refused-answers r l (λ x. z (sym e ∙ x)))

refuses_other_sessions : RefusesOtherSessions answer_of
refuses_other_sessions =
    record {
      named = λ r l b w z. by-ladder r l _ (ladder-other r l w (other_name r l b z)) (λ x. omega arith);
      unnamed = λ r l b w n. by-ladder r l _ (ladder-other r l w (blank-other r l b n)) (λ x. omega arith);
    }

refuses_once_ended : RefusesOnceEnded answer_of receiver_after
refuses_once_ended =
    record {
      not_well_formed = λ r l e z. by-ladder r l _ (ladder-bad r l z) z;
      named = λ r l e b w n. by-ladder r l _ (ladder-ended r l w (own_name r l b n) e) (λ x. omega arith);
      unnamed = λ r l e b w z. by-ladder r l _ (ladder-ended r l w (blank-own r l b z) e) (λ x. omega arith);
      stays = ended-stays;
    }

-- ---- only the row above n asks

asks-above : (limit n : ℕ) (k : DownstreamKind) (f c : ℕ) (o : Outcome) → Row limit n k f c o → o.reply.which ≡ answer ask → n < f
asks-above limit n k f c o (data_reaches a b d e) w = let x = sym (ap (λ (y : Outcome). y.reply.which) e) ∙ w in let z : ◌≡◌ {A = ℕ} 0 1 = cc in absurd (omega arith)
asks-above limit n k f c o (data_below a b e) w = let x = sym (ap (λ (y : Outcome). y.reply.which) e) ∙ w in let z : ◌≡◌ {A = ℕ} 0 1 = cc in absurd (omega arith)
asks-above limit n k f c o (heartbeat_below a b e) w = let x = sym (ap (λ (y : Outcome). y.reply.which) e) ∙ w in let z : ◌≡◌ {A = ℕ} 0 1 = cc in absurd (omega arith)
asks-above limit n k f c o (heartbeat_there a b e) w = let x = sym (ap (λ (y : Outcome). y.reply.which) e) ∙ w in let z : ◌≡◌ {A = ℕ} 0 1 = cc in absurd (omega arith)
asks-above limit n k f c o (any_above h e) w = h
asks-above limit n k f c o (end_there a b e) w = let x = sym (ap (λ (y : Outcome). y.reply.which) e) ∙ w in let z : ◌≡◌ {A = ℕ} 0 1 = cc in absurd (omega arith)

request_exactly_when : RequestExactlyWhen answer_of
request_exactly_when =
    record {
      when = λ r l e h. row-answer r l e ∙ ap (λ (o : Outcome). o.reply) (row-above r.limit.0 r.next.0 (number_of l) (count_of l) (kind_of l) h);
      only_when = λ r l e w. asks-above _ _ _ _ _ _ (row_of r l e) (sym (ap (λ (x : Words AnswerKind). x.which) (row-answer r l e)) ∙ w);
    }

-- an ask is from n, which good settings have at 1 or more, for 1 to the limit
ask_is_a_request : AskIsARequest answer_of
ask_is_a_request r l from count g e = zero_or_not _ (refusal_for r l) good bad
  where
    good : refusal_for r l ≡ 0 → request_ground from count ≡ 0
    good z =
        let h : r.next.0 < number_of l = request_exactly_when.only_when r l z (which-of e) in
        let v : r.next.0 ∷ ask_for r.limit.0 r.next.0 (number_of l) ∷ [] ≡ from ∷ count ∷ [] =
        values-of (sym (request_exactly_when.when r l z h) ∙ e) in
        let p : r.next.0 ≡ from = cc in
        let q : ask_for r.limit.0 r.next.0 (number_of l) ≡ count = cc in
        let b = in_bounds r.next.0 r.limit.0 g in
        let least : 1 ≤ from = omega (arith, b.number_least) in
        let some : 1 ≤ count = omega (arith, b.limit_least) in
        let most : count ≤ 65534 = omega (arith, b.limit_most) in
        sym (ground-good from count (λ x. omega arith) (λ x. omega arith) (λ x. omega arith))

    bad : (refusal_for r l ≡ 0 → ⊥) → request_ground from count ≡ 0
    bad z = let w = which-of (sym (refused-answers r l z) ∙ e) in let k : ◌≡◌ {A = ℕ} 0 1 = cc in absurd (omega arith)

-- ---- the settings

-- a datagram that is read has ten bytes for a name
first-ten : (l : List ℕ) → refusal_of l ≡ 0 → first_bytes 10 l ≡ take 10 l
unfolding first_bytes
first-ten l e = let h = (sound l e).long in let i : 10 ≤ length l = omega arith in rw (le-ltb _ _ i)

learns : (r : Receiver) (l : List ℕ) → r.session ≡ blank → refusal_for r l ≡ 0 → LearnsName (receiver_after r l) l
unfolding name_by
learns r l b e =
    let n : (receiver_after r l).session ≡ take 10 l = rw (row-after r l e, alike r.session blank b) (first-ten l (well-read r l e)) in
    record { its_name = n; not_blank = λ z. names-it r l e b (sym n ∙ z) }

stays-so : (r : Receiver) (l : List ℕ) → (refusal_for r l ≡ 0 → ⊥) → receiver_after r l ≡ r
stays-so r l z = sym (refused-stays r l (refusal_for r l) refl z)

-- a name of ten bytes stays one
pub after-ten : (r : Receiver) (l : List ℕ) → length r.session ≡ 10 → length (receiver_after r l).session ≡ 10
unfolding name_by
after-ten r l n = zero_or_not _ (refusal_for r l) (λ e. rw (row-after r l e) (either_way (same_bytes r.session blank))) (λ z. rw (stays-so r l z) n)
  where
    either_way : (b : Bool) → length (if b then first_bytes 10 l else r.session) ≡ 10
    either_way true = name-ten l
    either_way false = n

keeps_settings : KeepsSettings receiver_after
keeps_settings =
    record {
      limit = λ r l. zero_or_not _ (refusal_for r l) (λ e. rw (row-after r l e) refl) (λ z. rw (stays-so r l z) refl);
      name = λ r l b. zero_or_not _ (refusal_for r l) (λ e. rw (row_named r l b e) refl) (λ z. rw (stays-so r l z) refl);
      refused = λ r l z. rw (stays-so r l z) refl;
      learns = learns;
    }

-- ---- the number

row-rises : (limit n : ℕ) (k : DownstreamKind) (f c : ℕ) (o : Outcome) → Row limit n k f c o → n ≤ o.next
row-rises limit n k f c o (data_reaches a b d e) = rw e (omega arith)
row-rises limit n k f c o (data_below a b e) = rw e (omega arith)
row-rises limit n k f c o (heartbeat_below a b e) = rw e (omega arith)
row-rises limit n k f c o (heartbeat_there a b e) = rw e (omega arith)
row-rises limit n k f c o (any_above h e) = rw e (omega arith)
row-rises limit n k f c o (end_there a b e) = rw e (omega arith)

number_never_falls : NumberNeverFalls receiver_after
number_never_falls r l =
    zero_or_not _ (refusal_for r l) (λ e. rw (row-after r l e) (row-rises _ _ _ _ _ _ (row_of r l e))) (λ z. rw (← refused-stays r l (refusal_for r l) refl z) (omega arith))

-- and where it moves it moves to f + c, which 14 holds below 2^64
row_within : (limit n : ℕ) (k : DownstreamKind) (f c : ℕ) (o : Outcome) → Row limit n k f c o → n ≤ 18446744073709551615
    → (k ≡ data_packet → f + c ≤ 18446744073709551615) → o.next ≤ 18446744073709551615
row_within limit n k f c o (data_reaches a b d e) h g = rw e (g a)
row_within limit n k f c o (data_below a b e) h g = rw e h
row_within limit n k f c o (heartbeat_below a b e) h g = rw e h
row_within limit n k f c o (heartbeat_there a b e) h g = rw e h
row_within limit n k f c o (any_above b e) h g = rw e h
row_within limit n k f c o (end_there a b e) h g = rw e h

data-within : (l : List ℕ) → refusal_of l ≡ 0 → kind_of l ≡ data_packet → number_of l + count_of l ≤ 18446744073709551615
data-within l e k = let n = (sound l e).numbers_fit in let b = kind-blocks l data_packet k in omega arith

stays_good : StaysGood receiver_after
stays_good r l g = zero_or_not _ (refusal_for r l) good (λ z. rw (← refused-stays r l (refusal_for r l) refl z) g)
  where
    good : refusal_for r l ≡ 0 → receiver_start_refusal (receiver_after r l).next.0 (receiver_after r l).limit.0 ≡ 0
    good e =
        let b = in_bounds r.next.0 r.limit.0 g in
        let up = row-rises _ _ _ _ _ _ (row_of r l e) in
        let most = row_within _ _ _ _ _ _ (row_of r l e) b.number_most (data-within l (well-read r l e)) in
        let least : 1 ≤ (table_row r l).next = omega (arith, b.number_least) in
        rw (row-after r l e) (sym (start-good (table_row r l).next r.limit.0 least most b.limit_least b.limit_most))

-- ---- the words tell all answers apart: they read back

answered : Case AnswerKind → ℕ → List ℕ → Answer
answered (answer deliver) r vs = Deliver (record { 0 = get_or vs 0 0 }) (record { 0 = get_or vs 1 0 }) (record { 0 = get_or vs 2 0 })
answered (answer old) r vs = Old
answered (answer quiet) r vs = Quiet
answered (answer ask) r vs = Ask (record { 0 = get_or vs 0 0 }) (record { 0 = get_or vs 1 0 })
answered (answer ended) r vs = Ended
answered refused r vs = Refused (record { number = r })

tells_apart : Injective answer_words
unfolding answer_words answered
tells_apart = read_back answer_words (λ w. answered w.which w.refusal w.values) back
  where
    back : (a : Answer) → answered (answer_words a).which (answer_words a).refusal (answer_words a).values ≡ a
    back (Deliver n c s) = refl
    back Old = refl
    back Quiet = refl
    back (Ask n c) = refl
    back Ended = refl
    back (Refused r) = refl

pub receiver-promises : ReceiverPromises
receiver-promises =
    record {
      follows_the_table = follows_the_table;
      request_exactly_when = request_exactly_when;
      refuses_other_sessions = refuses_other_sessions;
      refuses_once_ended = refuses_once_ended;
      number_never_falls = number_never_falls;
      ask_is_a_request = ask_is_a_request;
      stays_good = stays_good;
      keeps_settings = keeps_settings;
      tells_apart = tells_apart;
    }

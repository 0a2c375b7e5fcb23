-- A run of calls is the run of order 6's receiver, and gives what it delivers.
use Prim.Native.Nat.{ℕ, zero, suc, ◌+◌, ◌-◌, ◌*◌, ◌^◌, ◌<◌, ◌≤◌}
use mathlib.Core.List.{List, [], ◌∷◌, ◌++◌}
use mathlib.Core.Bool.{Bool, true, false, true≢false}
use mathlib.Core.Path.{◌≡◌, refl, ap, ap₂, sym, ◌∙◌, subst}
use native.Mathlib.Omega.{arith}
use lib.ListN.{length, get_or, take, drop, get_or-append}
use lib.Seq.{take_all as take_whole}
use lib.Dec.{eqb}
use lib.Pow.{pow_pos}
use borrow.Author.Tests.{lt-ltb, le-ltb, eqb-true, eq-eqb, ne_eqb}
use Rattle.std.specs.Prelude.{if◌then◌else◌}
use Rattle.wire.specs.Bounds.{session_size}
use Rattle.wire.specs.Bytes.{AreBytes}
use Rattle.wire.specs.Output.{put}
use Rattle.wire.specs.Refusals.{bad_setting}
use Rattle.wire.specs.Parts.{first_bytes}
use Rattle.wire.proofs.Cases.{zero_or_not, below_or_not}
use Rattle.wire.proofs.Outputs.{length-put}
use Rattle.moldudp64.specs.Header.{number_of}
use Rattle.moldudp64.specs.Downstream.{DownstreamKind, data_packet, heartbeat, end_of_session, kind_of, messages_of, refusal_of}
use Rattle.receiver.specs.declared.receiver.Receiver.{Receiver}
use Rattle.receiver.specs.Receiver.{receiver_start_refusal, refusal_for}
use Rattle.feed.specs.Session.{Datagram, Message, Session, OfKind, AllOfKind, messages_from}
use Rattle.feed.specs.Machine.{number_after, after, delivered}
use Rattle.feed.specs.Faithful.{Opens, Faithful}
use Rattle.early_word.proofs.WordLaws.{past-lt, marked-lt}
use Rattle.early_holding.specs.declared.holding.EarlyReceiver.{EarlyReceiver}
use Rattle.early_holding.specs.Holding.{Lent, lent, next_of, keeps, advance, keep, keep_one, take_one, take_all}
use Rattle.early_holding.proofs.HoldingLaws.{either}
use Rattle.early_receiver.specs.Early.{right_size, with_slots, start_early, early_refusal, named_lent, end_at, take_kind, lent_after, request_of, early_answer}
use Rattle.early_receiver.specs.Statements.{EarlyRefusalKeeps}
use Rattle.early_receiver.proofs.Promises.{early-promises}
use Rattle.early_messages.specs.declared.message.Part.{Part}
use Rattle.early_messages.specs.declared.walk.Walk.{Walk}
use Rattle.early_messages.specs.Delivery.{delivered_count, part_at, bytes_of, message_at, messages_at, delivery, PartsAreMessages, PlacesExist}
use Rattle.early_messages.specs.Walk.{start_walk, walk_part, walk_on, walk_by, WalksTheDelivery}
use Rattle.early_messages.proofs.GivesLaws.{places_exist}
use Rattle.early_messages.proofs.PartLaws.{parts-are-messages}
use Rattle.early_messages.proofs.WalkLaws.{walks-the-delivery}
use Rattle.early_condition_3.specs.Condition3.{keeper, EarlyCondition3For}
use Rattle.early_condition_3.proofs.ConditionLaws.{early-condition-3}
use Rattle.host_answers.specs.Answers.{or_else, short, flag, unless_sized, state_ladder, on_success}
use Rattle.host_answers.proofs.OnlyLaws.{only-at-most, at_most}
use Rattle.host_cursor.proofs.DatagramLaws.{datagram_grounds, datagram-only}
use Rattle.host_answers.proofs.AnswerLaws.{or-next, or-first, or-none}
use Rattle.host_answers.proofs.LadderLaws.{first-zero}
use Rattle.host_answers.proofs.PromiseLaws.{host-promises}
use Rattle.host_states.specs.States.{on_step}
use Rattle.host_states.specs.Little.{little}
use Rattle.host_receiver.proofs.TakenLaws.{kept-size}
use Rattle.host_early.specs.Early.{Kept, early_in, lengths_in, lent_in}
use Rattle.host_early.specs.Replies.{part_words}
use Rattle.host_early.specs.Walk.{walk_in}
use Rattle.host_early.proofs.EarlyLaws.{lengths-few}
use Rattle.host_early.specs.Slots.{slots_refusal}
use Rattle.exports_early_messages.specs.Calls.{NextPart}
use Rattle.exports_early.specs.Calls.{StartsKeeper, TakesLent}
use Rattle.exports_early.specs.Run.{part_in, Walked, stop, next, Gets, Handed, none, one, Hands, HandsOn, StartCall, number_in, ended_in, GetsTrue, NoWorse, HostGetsTrue}
use Rattle.exports_early.proofs.TakeLaws.{length-said}

-- ---- the word stays one of 64 bits

one_word : (s : Lent) (j : ℕ) (m : Message) → s.receiver.held.0 < 2 ^ 64 → (take_one s j m).receiver.held.0 < 2 ^ 64
unfolding take_one advance keep_one keep
one_word s j m w =
    either (eqb j (next_of s.receiver)) _ (λ q. rw q (past-lt s.receiver.held.0 64 _ w))
    (λ q. either (keeps s.receiver j (length m)) _ (λ k. rw (q, k) (marked-lt s.receiver.held.0 _ w)) (λ k. rw (q, k) w))

all-word : (s : Lent) (f : ℕ) (ms : List Message) → s.receiver.held.0 < 2 ^ 64 → (take_all s f ms).receiver.held.0 < 2 ^ 64
unfolding take_all
all-word s f [] w = w
all-word s f (m ∷ ms) w = all-word (take_one s f m) (f + 1) ms (one_word s f m w)

kind-word : (s : Lent) (k : DownstreamKind) (d : List ℕ) → s.receiver.held.0 < 2 ^ 64 → (take_kind s k d).receiver.held.0 < 2 ^ 64
unfolding take_kind end_at
kind-word s data_packet d w = all-word s (number_of d) (messages_of d) w
kind-word s heartbeat d w = w
kind-word s end_of_session d w = either (eqb (number_of d) (next_of s.receiver)) _ (λ q. rw q (pow_pos 64)) (λ q. rw q w)

pub word-stays : (s : Lent) (d : List ℕ) → s.receiver.held.0 < 2 ^ 64 → (lent_after s d).receiver.held.0 < 2 ^ 64
unfolding lent_after
word-stays s d w =
    zero_or_not _ (early_refusal s d) (λ z. rw (eq-eqb _ 0 z) (kind-word (named_lent s d) (kind_of d) d w)) (λ z. rw (ne_eqb _ 0 z) w)

-- ---- one call of next

flag-zero : (b : Bool) → flag b ≡ 0 → b ≡ false
flag-zero true e = absurd (omega arith)
flag-zero false e = refl

flag_one : (b : Bool) → flag b ≡ 1 → b ≡ true
flag_one true e = refl
flag_one false e = absurd (omega arith)

pub flag_is : (b : Bool) → eqb (flag b) 1 ≡ b
flag_is true = refl
flag_is false = refl

pub moves-one : (i : ℕ) (d : List ℕ) (x : Walk) → walk_on d (walk_by i d x) ≡ walk_by (suc i) d x
unfolding walk_by
moves-one zero d x = refl
moves-one (suc i) d x = moves-one i d (walk_on d x)

right : (ss : List ℕ) → length ss ≡ 65536 → slots_refusal ss ≡ 0
unfolding slots_refusal
right ss h = rw (eq-eqb _ _ h) refl

module _ (l ss : List ℕ) (d : Datagram) (h : 157 ≤ length l) (k : length ss ≡ 65536) (word : (lent_in l ss).receiver.held.0 < 2 ^ 64) where
  abbrev s : Lent
  s = lent_in l ss

  module _ {r : ℕ} {w w' ws ws' : List ℕ} (t : NextPart r w w' l ss d ws ws') (room : 21 ≤ length w) (enough : 4 ≤ length ws) where
    next-code : r ≡ 0
    unfolding short or_else
    next-code = t.answers.returns ∙ rw (le-ltb (length w) 21 room, le-ltb (length l) 157 h, right ss k, le-ltb (length ws) 4 enough) refl

    next-words : ws' ≡ part_words (walk_part s d (walk_in w)) ++ drop 4 ws
    next-words = host-promises.success_lays_its_words.words r ws ws' _ _ t.answers next-code

    word_of : (i : ℕ) → i < 4 → get_or ws' i 0 ≡ get_or (part_words (walk_part s d (walk_in w))) i 0
    word_of i j = rw next-words (get_or-append (part_words (walk_part s d (walk_in w))) (drop 4 ws) 0 i j)

    laid : (walk_part s d (walk_in w)).exists ≡ true → on_step r (flag (walk_part s d (walk_in w)).exists) ≡ true
    unfolding on_step
    laid e = rw (e, eq-eqb r 0 next-code)

    moved : (walk_part s d (walk_in w)).exists ≡ true → walk_in w' ≡ walk_on d (walk_in w)
    moved e = t.keeps.reads_back (laid e) room

    moved-size : (walk_part s d (walk_in w)).exists ≡ true → length w' ≡ length w
    moved-size e =
        let put-there : w' ≡ put w 0 _ = rw (laid e) at t.keeps.leaves in
        rw put-there (length-put w 0 _)

    -- the part that its words name
    part_bytes : (p : Part) → walk_part s d (walk_in w) ≡ p → part_in ss d ws' ≡ bytes_of ss d p
    part_bytes p e =
        rw (word_of 3 (omega arith), word_of 2 (omega arith), word_of 1 (omega arith), e) (ap (λ (b : Bool). take p.length (drop p.offset.0 (if b then ss else d))) (flag_is p.held))

  -- ---- a walk, from place i on

  none-past : (i : ℕ) → delivered_count s d ≤ i → (part_at s d i).exists ≡ false
  unfolding part_at
  none-past i j = rw (le-ltb i (delivered_count s d) j) refl

  walk : {w : List ℕ} {ms : List Message} (i : ℕ) → 21 ≤ length w → walk_in w ≡ walk_by i d (start_walk s d) → Walked l ss d w ms → ms ≡ messages_at s d i (delivered_count s d - i)
  unfolding messages_at WalksTheDelivery PartsAreMessages PlacesExist
  walk {w} i room e (stop r ws ws' enough t z) =
      let part : walk_part s d (walk_in w) ≡ part_at s d i = rw e (walks-the-delivery s d i) in
      let gone : (part_at s d i).exists ≡ false = ap (λ (p : Part). p.exists) (sym part) ∙ flag-zero _ (sym (word_of t room enough 0 (omega arith)) ∙ z) in
      let past : delivered_count s d ≤ i = below_or_not _ i (delivered_count s d) (λ j. absurd (true≢false (sym (places_exist s d i word j) ∙ gone))) (λ j. j) in
      let zero_left : delivered_count s d - i ≡ 0 = omega arith in
      rw zero_left refl
  walk {w} i room e (next {w' = w'} {ms = ms} r ws ws' enough t z rest) =
      let part : walk_part s d (walk_in w) ≡ part_at s d i = rw e (walks-the-delivery s d i) in
      let there : (walk_part s d (walk_in w)).exists ≡ true = flag_one _ (sym (word_of t room enough 0 (omega arith)) ∙ z) in
      let before : i < delivered_count s d = below_or_not _ i (delivered_count s d) (λ j. j) (λ j. absurd (true≢false (sym there ∙ ap (λ (p : Part). p.exists) part ∙ none-past i j))) in
      let left : delivered_count s d - i ≡ suc (delivered_count s d - (i + 1)) = omega arith in
      let on : walk_in w' ≡ walk_by (i + 1) d (start_walk s d) = moved t room enough there ∙ ap (walk_on d) e ∙ moves-one i d (start_walk s d) ∙ ap (λ (n : ℕ). walk_by n d (start_walk s d)) (plus_one i) in
      let others : ms ≡ messages_at s d (i + 1) (delivered_count s d - (i + 1)) = walk (i + 1) (omega (arith, moved-size t room enough there)) on rest in
      let this : part_in ss d ws' ≡ message_at s d i = part_bytes t room enough (part_at s d i) part ∙ parts-are-messages s d i in
      rw left (ap₂ (λ (a : Message) (b : List Message). a ∷ b) this others)
    where
      plus_one : (n : ℕ) → suc n ≡ n + 1
      plus_one n = omega arith

  pub got : {ms : List Message} → Gets l ss d ms → ms ≡ delivery s d
  unfolding short or_else walk_by
  got g =
      let z : g.code ≡ 0 = g.call.returns ∙ rw (le-ltb (length l) 157 h, right ss k, le-ltb (length g.before) 21 g.room) refl in
      let size : length g.walk_set ≡ length g.before = kept-size g.call.keeps z in
      walk 0 (omega (arith, g.room)) (g.call.keeps.reads_back (eq-eqb _ 0 z) g.room) g.walked ∙ ap (messages_at s d 0) (all_left (delivered_count s d))
    where
      all_left : (n : ℕ) → n - 0 ≡ n
      all_left n = omega arith

-- ---- one call of take

-- what isn't well-formed has its own refusal, at every receiver
ill-formed : (r : Receiver) (d : List ℕ) → (refusal_of d ≡ 0 → ⊥) → refusal_for r d ≡ refusal_of d
unfolding refusal_for
ill-formed r d e = rw (ne_eqb (refusal_of d) 0 e) refl

low-stays : (b : Bool) (k : ℕ) → (k ≡ 0 → ⊥) → k ≤ 19 → with_slots b k ≡ k
unfolding with_slots
low-stays true k z h = refl
low-stays false k z h = rw (ne_eqb k 0 z, le-ltb 19 k h) refl

bad-own : (t : Lent) (d : List ℕ) → (refusal_of d ≡ 0 → ⊥) → early_refusal t d ≡ refusal_of d
unfolding early_refusal at_most
bad-own t d z =
    let low : refusal_of d ≤ 16 = only-at-most (refusal_of d) 16 datagram_grounds (datagram-only d) refl in
    rw (ill-formed t.receiver.base d z) (low-stays (right_size t) (refusal_of d) z (omega arith))

pub ladder-own : (s : Lent) (d : List ℕ) → state_ladder (refusal_of d) false (early_refusal s d) ≡ early_refusal s d
unfolding short
ladder-own s d =
    zero_or_not _ (refusal_of d) (λ z. sym (or-next 0 (early_refusal s d) refl ∙ or-next (refusal_of d) _ z)) (λ z. sym (or-first (refusal_of d) _ z) ∙ sym (bad-own s d z))

module _ {l ss m st d ws ws' : List ℕ} {r : ℕ} (t : TakesLent r l m ss st d ws ws') (room : 7 ≤ length ws) (h : 157 ≤ length l) where
  pub code_is : r ≡ early_refusal (lent_in l ss) d
  unfolding short
  code_is =
      t.answers.returns
      ∙ rw (length-said (early_answer (lent_in l ss) d) (request_of (lent_in l ss) d), le-ltb (length ws) 7 room, le-ltb (length l) 157 h) (sym (or-none _) ∙ ladder-own (lent_in l ss) d)

  pub took : lent_in m st ≡ lent_after (lent_in l ss) d
  unfolding on_success EarlyRefusalKeeps
  took =
      zero_or_not _ r
      (λ z.
      let bytes = t.keeps.reads_back (eq-eqb r 0 z) h in
      let left : st ≡ (lent_after (lent_in l ss) d).slots = rw (eq-eqb r 0 z) at t.slots in
      ap₂ (λ (k : Kept) (x : List ℕ). lent k.receiver k.lengths x) bytes left)
      (λ z.
      let same : m ≡ l = rw (ne_eqb r 0 z) at t.keeps.leaves in
      let left : st ≡ ss = rw (ne_eqb r 0 z) at t.slots in
      ap₂ lent_in same left ∙ sym (early-promises.refusal_keeps (lent_in l ss) d (λ y. z (code_is ∙ y))).0)

  pub took-size : length m ≡ length l
  took-size = zero_or_not _ r (λ z. kept-size t.keeps z) (λ z. ap length (rw (ne_eqb r 0 z) at t.keeps.leaves))

  pub took-slots : length st ≡ length ss
  took-slots = ap (λ (x : Lent). length x.slots) took ∙ early-promises.only_held_bytes_change.slots_stay (lent_in l ss) d

-- ---- all calls

run : {l ss m st : List ℕ} {ds : List Datagram} {ms : List Message} → 157 ≤ length l → length ss ≡ 65536 → (lent_in l ss).receiver.held.0 < 2 ^ 64
    → Handed l ss ds m st ms → Hands l ss m st ds ms
unfolding after delivered
run h k w none = record { leaves = refl; gives = refl }
run {l} {ss} h k w (one {m = m} {st = st} {d = d} {ds = es} t r) =
    let this = took t.call t.room h in
    let rest = run (omega (arith, took-size t.call t.room h)) (took-slots t.call t.room h ∙ k)
    (subst (λ (x : Lent). x.receiver.held.0 < 2 ^ 64) (sym this) (word-stays (lent_in l ss) d w)) r in
    record {
      leaves = rest.leaves ∙ ap (λ (x : Lent). after keeper x es) this;
      gives = rw (got l ss d h k w t.gets, rest.gives, this) refl;
    }

-- a word of bytes is one of 64 bits
little-lt : (l : List ℕ) (at n : ℕ) → AreBytes l → little l at n < 256 ^ n
unfolding little
little-lt l at zero a = omega arith
little-lt l at (suc n) a =
    let e : 256 ^ suc n ≡ 256 * 256 ^ n = omega arith in
    let b : get_or l at 0 < 256 = a at in
    let r : little l (at + 1) n < 256 ^ n = little-lt l (at + 1) n a in
    rw e (omega arith)

bytes_word : (l ss : List ℕ) → AreBytes l → (lent_in l ss).receiver.held.0 < 2 ^ 64
unfolding early_in
bytes_word l ss a = below_or_not _ (length l) 157 (λ h. rw (lt-ltb (length l) 157 h) (pow_pos 64)) (λ h. rw (le-ltb (length l) 157 h) (little-lt l 21 8 a))

pub hands_on : HandsOn
unfolding HandsOn
hands_on l ss m st ds ms h k a r = run h k (bytes_word l ss a) r

-- ---- condition 3

-- a code of 0 says that the name is ten bytes, and that the start isn't refused
record Good (name : List ℕ) (start limit : ℕ) : Type 0 where
  ten : length name ≡ session_size
  taken : receiver_start_refusal start limit ≡ 0

good : (name : List ℕ) (start limit : ℕ) (l m : List ℕ) → StartsKeeper 0 name start limit l m → Good name start limit
unfolding unless_sized
good name start limit l m s = go (eqb (length name) session_size) refl (first-zero _ _ (sym s.returns))
  where
    go : (b : Bool) → eqb (length name) session_size ≡ b → (if b then receiver_start_refusal start limit else bad_setting) ≡ 0 → Good name start limit
    go true e f = record { ten = eqb-true _ _ e; taken = f }
    go false e f = absurd (omega arith)

own_name : (name : List ℕ) → length name ≡ session_size → first_bytes session_size name ≡ name
unfolding first_bytes
own_name name ten = rw (le-ltb (length name) session_size (omega arith)) (take_whole session_size name (omega arith))

-- the receiver in a started state's bytes, and condition 3 of it
module _ {s : Session} {start : ℕ} {m ss : List ℕ} {refused naming : List Datagram} (c : StartCall s start m ss refused naming) where
  good_start : Good c.name start c.limit
  good_start = good c.name start c.limit c.state m c.call

  fresh : early_in m ≡ start_early c.name start c.limit
  fresh = ap (λ (k : Kept). k.receiver) (c.call.keeps.reads_back refl c.room) ∙ rw (own_name c.name good_start.ten) refl

  enough : 157 ≤ length m
  enough = let size : length m ≡ length c.state = kept-size c.call.keeps refl in let h = c.room in omega arith

  fresh-word : (lent_in m ss).receiver.held.0 < 2 ^ 64
  unfolding start_early
  fresh-word = rw fresh (pow_pos 64)

  same : lent_in m ss ≡ lent (start_early c.name start c.limit) (lengths_in m) ss
  same = ap (λ (r : EarlyReceiver). lent r (lengths_in m) ss) fresh

  faithful : Faithful keeper s start (lent_in m ss) refused naming
  unfolding EarlyCondition3For
  faithful =
      rw same
      (early-condition-3 s c.name start c.limit (lengths_in m) ss refused naming good_start.taken c.from_one c.to_past_last (lengths-few m) c.slots
      (subst (λ (x : Lent). Opens s c.name (early_refusal x) refused naming) same c.opens))

gets_true : (s : Session) (start : ℕ) (m ss n st : List ℕ) (refused naming ds : List Datagram) (ms : List Message) → StartCall s start m ss refused naming → AllOfKind s (naming ++ ds)
    → Handed m ss (refused ++ (naming ++ ds)) n st ms → GetsTrue s start n st ms
gets_true s start m ss n st refused naming ds ms c kind handed =
    let hands = run (enough c) c.slots (fresh-word c) handed in
    let true-ones = (faithful c).delivers_true ds kind in
    let number : number_in n st ≡ number_after keeper (lent_in m ss) (refused ++ (naming ++ ds)) = ap (λ (r : Lent). next_of r.receiver) hands.leaves in
    record {
      from_start = rw number true-ones.from_start;
      to_last = rw number true-ones.to_last;
      exactly = hands.gives ∙ true-ones.exactly ∙ ap (messages_from s start) (sym number);
    }

one_more : (s : Session) (start : ℕ) (m ss n st n' st' : List ℕ) (refused naming before rest : List Datagram) (d : Datagram) (ms ms' : List Message) → StartCall s start m ss refused naming
    → AllOfKind s (naming ++ (before ++ rest)) → OfKind s d → Handed m ss (refused ++ (naming ++ (before ++ rest))) n st ms
    → Handed m ss (refused ++ (naming ++ (before ++ d ∷ rest))) n' st' ms' → NoWorse n st n' st' ms ms'
one_more s start m ss n st n' st' refused naming before rest d ms ms' c kind this shorter longer =
    let hands = run (enough c) c.slots (fresh-word c) shorter in
    let more = run (enough c) c.slots (fresh-word c) longer in
    let worse = (faithful c).one_more before rest d kind this in
    let was : ended_in n st ≡ (after keeper (lent_in m ss) (refused ++ (naming ++ (before ++ rest)))).receiver.base.ended = ap (λ (r : Lent). r.receiver.base.ended) hands.leaves in
    let is : ended_in n' st' ≡ (after keeper (lent_in m ss) (refused ++ (naming ++ (before ++ d ∷ rest)))).receiver.base.ended = ap (λ (r : Lent). r.receiver.base.ended) more.leaves in
    record { as_many = rw (hands.gives, more.gives) worse.as_many; ended_too = λ e. is ∙ worse.ended_too (sym was ∙ e) }

pub host-gets-true : HostGetsTrue
host-gets-true = record { gets_true = gets_true; one_more = one_more }

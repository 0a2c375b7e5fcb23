-- A feed and a finish: what they answer and keep, and that a feed which uses no byte, and isn't over, changes nothing.
use Prim.Native.Nat.{ℕ, ◌+◌, ◌≤◌, ◌<◌}
use mathlib.Core.List.{List, [], ◌∷◌, append_assoc}
use mathlib.Core.Bool.{Bool, true, false, not, ◌||◌}
use mathlib.Core.Path.{◌≡◌, refl, ap, ap₂, sym, ◌∙◌}
use native.Mathlib.Omega.{arith}
use lib.ListN.{length, take, drop}
use lib.Seq.{drop-drop}
use lib.Dec.{ltb, eqb}
use borrow.Rule.Slice.PartMut.{mid_of, put_mid, put_same}
use borrow.Author.Tests.{lt-ltb, le-ltb, eq-eqb, ne_eqb, eqb-true, not-false}
use Rattle.wire.specs.Bounds.{session_size}
use Rattle.wire.specs.Refusals.{bad_setting, output_short}
use Rattle.wire.specs.Output.{put}
use Rattle.wire.proofs.Cases.{below_or_not}
use Rattle.wire.proofs.Outputs.{length-put, put-room}
use Rattle.early_holding.specs.Holding.{slot_bytes}
use Rattle.early_holding.proofs.HoldingLaws.{either}
use Rattle.capture_events.specs.Events.{fold, is_over_at, read_piece}
use Rattle.capture_events.proofs.EventLaws.{piece-stays}
use Rattle.capture.specs.declared.reading.Stage.{Stage}
use Rattle.capture.specs.declared.reading.Reading.{Reading}
use Rattle.capture.specs.declared.reading.Fed.{Fed}
use Rattle.capture.specs.Reading.{LentReading, lent_reading, reading_with, report_in, LentFed, lent_fed, fed_reading, room_of, at_of, is_over, feed_of, finish_of}
use Rattle.capture.proofs.FoldLaws.{stage_at, over-stage}
use Rattle.capture.proofs.NameLaws.{feed-ten, feed-lengths, feed-slots, finish-ten, finish-lengths}
use Rattle.host_answers.specs.Answers.{or_else, short, flag, on_success, AnswersWith}
use Rattle.host_answers.proofs.AnswerLaws.{or-first, or-next, or-none, no-success}
use Rattle.host_early.proofs.EarlyLaws.{early-ten, lengths-few}
use Rattle.host_capture.specs.Reading.{reading_size, reading_in, KeptReading, lent_reading_in, LaysReading}
use Rattle.host_capture.proofs.ReadingLaws.{lengths-stand, reading-not, reading-kept}
use Rattle.host_early.specs.Slots.{slots_refusal, slots_ladder}
use Rattle.exports_capture.specs.Calls.{fed_words, on_feed, feed_in, FeedsReading, finish_in, FinishesReading, FeedCall, Handed, none, one, reading_after, ReadingHandsOn, IsSized}

-- ---- the reading in some bytes

-- its receiver's name has ten bytes, and its lengths 128
ten-in : (l : List ℕ) → length (reading_in l).report.receiver.base.session ≡ session_size
unfolding reading_in
ten-in l =
    below_or_not _ (length l) reading_size (λ h. rw (lt-ltb (length l) reading_size h) refl) (λ h. rw (le-ltb (length l) reading_size h) (early-ten (drop 2 l)))

-- so has whatever it is fed or finished to
module _ (l ss d : List ℕ) where
  fed-ten : length (feed_in l ss d).fed.reading.report.receiver.base.session ≡ session_size
  fed-ten = feed-ten (lent_reading_in l ss) d (ten-in l)

  fed-few : length (feed_in l ss d).lengths ≡ 128
  fed-few = feed-lengths (lent_reading_in l ss) d ∙ lengths-few (drop 2 l)

  finished-ten : length (finish_in l ss d).reading.report.receiver.base.session ≡ session_size
  finished-ten = finish-ten (lent_reading_in l ss) d (ten-in l)

  finished-few : length (finish_in l ss d).lengths ≡ 128
  finished-few = finish-lengths (lent_reading_in l ss) d ∙ lengths-few (drop 2 l)

-- ---- a feed that uses no byte, and isn't over

both-none : (a b : Bool) → a || b ≡ false → (a ≡ false) × (b ≡ false)
both-none true b e = let z : ◌≡◌ {A = ℕ} 0 1 = cc in absurd (omega arith)
both-none false b e = (refl, e)

abbrev moves : Fed → Bool
moves f = not (eqb f.used 0) || is_over f.reading.stage

-- whether it moves, as the code has it
or-true : (b : Bool) → b || true ≡ true
or-true true = refl
or-true false = refl

module _ (n : ℕ) (o : Bool) where
  pub moved-used : (n ≡ 0 → ⊥) → not (eqb n 0) || o ≡ true
  moved-used z = rw (ne_eqb n 0 z) refl

  pub moved-over : o ≡ true → not (eqb n 0) || o ≡ true
  moved-over e = rw e (or-true (not (eqb n 0)))

  pub not-moved : n ≡ 0 → o ≡ false → not (eqb n 0) || o ≡ false
  not-moved e f = rw (eq-eqb n 0 e, f) refl

pub feed-stays : (x : LentReading) (l : List ℕ) → moves (feed_of x l).fed ≡ false → fed_reading (feed_of x l) ≡ x
unfolding feed_of fold
feed-stays x l b =
    let n = both-none (not (eqb (read_piece (at_of x.reading) l).used 0)) _ b in
    let e = eqb-true _ _ (not-false (eqb (read_piece (at_of x.reading) l).used 0) n.0) in
    let o : is_over_at (read_piece (at_of x.reading) l).at ≡ false = sym (over-stage (read_piece (at_of x.reading) l).at) ∙ n.1 in
    rw (piece-stays (at_of x.reading) l e o) (ap (λ (g : Stage). reading_with g (report_in x)) (stage_at x.reading.stage (room_of x.reading.report)))

on_none : (code : ℕ) (f : Fed) → moves f ≡ false → on_feed code f ≡ false
unfolding on_feed
on_none code f e = rw e (either (eqb code 0) _ (λ q. rw q refl) (λ q. rw q refl))

on-all : (code : ℕ) (f : Fed) → code ≡ 0 → moves f ≡ true → on_feed code f ≡ true
unfolding on_feed
on-all code f z e = rw (eq-eqb code 0 z) e

on-refusal : (code : ℕ) (f : Fed) → (code ≡ 0 → ⊥) → on_feed code f ≡ false
unfolding on_feed
on-refusal code f z = rw (ne_eqb code 0 z) refl

-- ---- the refusals, in order

module _ (l ss : List ℕ) where
  ladder-short : length l < reading_size → output_short ≡ slots_ladder (ltb (length l) reading_size) ss
  unfolding short
  ladder-short h = rw (lt-ltb (length l) reading_size h) (or-first output_short _ (λ z. omega arith))

  ladder-slots : reading_size ≤ length l → (length ss ≡ slot_bytes → ⊥) → bad_setting ≡ slots_ladder (ltb (length l) reading_size) ss
  unfolding short slots_refusal
  ladder-slots h z = rw (le-ltb (length l) reading_size h, ne_eqb (length ss) slot_bytes z) (or-next 0 bad_setting refl)

  ladder-none : IsSized l ss → 0 ≡ slots_ladder (ltb (length l) reading_size) ss
  unfolding short slots_refusal
  ladder-none z = rw (le-ltb (length l) reading_size z.0, eq-eqb (length ss) slot_bytes z.1) (or-next 0 0 refl)

-- nothing changes
module _ (l ss d : List ℕ) (r : ℕ) (z : r ≡ 0 → ⊥) where
  feed-refused : (ws : List ℕ) → r ≡ or_else (slots_ladder (ltb (length l) reading_size) ss) (short (ltb (length ws) 2)) → FeedsReading r l l ss ss d ws ws
  feed-refused ws e =
      record {
        answers = record { returns = e; words = no-success r _ ws z };
        keeps = rw (on-refusal r (feed_in l ss d).fed z)
            (reading-not (feed_in l ss d).fed.reading (feed_in l ss d).lengths l (fed-ten l ss d) (fed-few l ss d) output_short (λ q. omega arith));
        slots = no-success r _ ss z;
      }

  finish-refused : r ≡ slots_ladder (ltb (length l) reading_size) ss → FinishesReading r l l ss ss d
  finish-refused e =
      record {
        returns = e;
        keeps = reading-not (finish_in l ss d).reading (finish_in l ss d).lengths l (finished-ten l ss d) (finished-few l ss d) r z;
        slots = no-success r _ ss z;
      }

-- as the code has them
module _ (l ss d : List ℕ) where
  pub feeds-short : (ws : List ℕ) → length l < reading_size → FeedsReading output_short l l ss ss d ws ws
  feeds-short ws h =
      feed-refused l ss d output_short (λ q. omega arith) ws (rw (← ladder-short l ss h) (or-first output_short _ (λ q. omega arith)))

  pub feeds-slots : (ws : List ℕ) → reading_size ≤ length l → (length ss ≡ slot_bytes → ⊥) → FeedsReading bad_setting l l ss ss d ws ws
  feeds-slots ws h z =
      feed-refused l ss d bad_setting (λ q. omega arith) ws (rw (← ladder-slots l ss h z) (or-first bad_setting _ (λ q. omega arith)))

  pub feeds-words : (ws : List ℕ) → reading_size ≤ length l → length ss ≡ slot_bytes → length ws < 2 → FeedsReading output_short l l ss ss d ws ws
  unfolding short
  feeds-words ws h z w =
      feed-refused l ss d output_short (λ q. omega arith) ws (rw (← ladder-none l ss (h, z), lt-ltb (length ws) 2 w) (or-next 0 output_short refl))

  pub finishes-short : length l < reading_size → FinishesReading output_short l l ss ss d
  finishes-short h = finish-refused l ss d output_short (λ q. omega arith) (ladder-short l ss h)

  pub finishes-slots : reading_size ≤ length l → (length ss ≡ slot_bytes → ⊥) → FinishesReading bad_setting l l ss ss d
  finishes-slots h z = finish-refused l ss d bad_setting (λ q. omega arith) (ladder-slots l ss h z)

-- ---- the lengths are lent from the state's bytes

-- a part that comes back with as many bytes is laid at its place
mid-put : (l ys : List ℕ) → reading_size ≤ length l → length ys ≡ 128 → put_mid 31 128 l ys ≡ put l 31 ys
mid-put l ys h e =
    let deep : drop 128 (drop 31 l) ≡ drop (31 + length ys) l = drop-drop 128 31 l ∙ ap (λ (n : ℕ). drop (31 + n) l) (sym e) in
    rw deep (sym (append_assoc (take 31 l) ys (drop (31 + length ys) l)) ∙ sym (put-room l 31 ys (omega arith)))

lent-so : (l ss : List ℕ) (x : Reading) → reading_size ≤ length l → x ≡ reading_in l → lent_reading x (mid_of 31 128 l) ss ≡ lent_reading_in l ss
lent-so l ss x h a = ap₂ (λ (y : Reading) (ls : List ℕ). lent_reading y ls ss) a (sym (lengths-stand l h))

-- ---- a feed with memory of its size: x was read, and fed to k

pub part-sized : (l ss : List ℕ) → IsSized l ss → 159 ≤ length l
part-sized l ss z = omega (arith, z.0)

pub part-long : (l : List ℕ) → reading_size ≤ length l → 159 ≤ length l
part-long l h = omega arith

module _ (l ss d ws ws' : List ℕ) (x : Reading) (k : Fed) (ls ss' : List ℕ) (code : ℕ) (o : Bool) (n : ℕ) (z : IsSized l ss) (w : 2 ≤ length ws)
    (a : x ≡ reading_in l) (e : lent_fed k ls ss' ≡ feed_of (lent_reading x (mid_of 31 128 l) ss) d) (v : o ≡ is_over k.reading.stage) (u : n ≡ flag o)
    (t : AnswersWith code ws ws' 0 (k.used ∷ n ∷ [])) where
  fed-so : lent_fed k ls ss' ≡ feed_in l ss d
  fed-so = e ∙ ap (λ (y : LentReading). feed_of y d) (lent-so l ss x z.0 a)

  pub feed-none : code ≡ 0
  unfolding short
  feed-none = t.returns ∙ rw (le-ltb (length ws) 2 w) (sym (or-next 0 0 refl))

  answered : AnswersWith code ws ws' (slots_ladder (ltb (length l) reading_size) ss) (fed_words (feed_in l ss d).fed)
  answered = rw (← ladder-none l ss z, ← fed-so, ← v, ← u) t

  slots-so : ss' ≡ on_success code (feed_in l ss d).slots ss
  unfolding on_success
  slots-so = ap (λ (f : LentFed). f.slots) fed-so ∙ rw (eq-eqb code 0 feed-none) refl

  ten-so : length k.reading.report.receiver.base.session ≡ session_size
  ten-so = ap (λ (f : LentFed). length f.fed.reading.report.receiver.base.session) fed-so ∙ fed-ten l ss d

  few-so : length ls ≡ 128
  few-so = ap (λ (f : LentFed). length f.lengths) fed-so ∙ fed-few l ss d

  pub feeds-laid : (m : List ℕ) → not (eqb k.used 0) || o ≡ true → LaysReading (put_mid 31 128 l ls) m k.reading → FeedsReading code l m ss ss' d ws ws'
  feeds-laid m b p =
      let g : moves k ≡ true = rw v at b in
      record {
        answers = answered;
        keeps = rw (← fed-so, on-all code k feed-none g) (reading-kept k.reading ls l ten-so few-so _ m z.0 (mid-put l ls z.0 few-so) p);
        slots = slots-so;
      }

  pub feeds-more : not (eqb k.used 0) || o ≡ false → FeedsReading code l (put_mid 31 128 l ls) ss ss' d ws ws'
  feeds-more b =
      let g : moves k ≡ false = rw v at b in
      let h : moves (feed_in l ss d).fed ≡ false = rw (← fed-so) g in
      let same : ls ≡ mid_of 31 128 l =
      ap (λ (f : LentFed). f.lengths) fed-so ∙ ap (λ (y : LentReading). y.lengths) (feed-stays (lent_reading_in l ss) d h) ∙ lengths-stand l z.0 in
      let stays : put_mid 31 128 l ls ≡ l = ap (put_mid 31 128 l) same ∙ put_same 31 128 l in
      record {
        answers = answered;
        keeps = rw (stays, ← fed-so, on_none code k g) (reading-not k.reading ls l ten-so few-so output_short (λ q. omega arith));
        slots = slots-so;
      }

-- ---- a finish: x was read, and finished to y

pub finishes-so : (l ss d : List ℕ) (x y : Reading) (ls ss' m : List ℕ) → reading_size ≤ length l → length ss ≡ slot_bytes → x ≡ reading_in l
    → lent_reading y ls ss' ≡ finish_of (lent_reading x (mid_of 31 128 l) ss) d → LaysReading (put_mid 31 128 l ls) m y → FinishesReading 0 l m ss ss' d
unfolding on_success
finishes-so l ss d x y ls ss' m h z a e p =
    let so : lent_reading y ls ss' ≡ finish_in l ss d = e ∙ ap (λ (s : LentReading). finish_of s d) (lent-so l ss x h a) in
    let ten : length y.report.receiver.base.session ≡ session_size = ap (λ (s : LentReading). length s.reading.report.receiver.base.session) so ∙ finished-ten l ss d in
    let few : length ls ≡ 128 = ap (λ (s : LentReading). length s.lengths) so ∙ finished-few l ss d in
    record {
      returns = ladder-none l ss (h, z);
      keeps = rw (← so) (reading-kept y ls l ten few _ m h (mid-put l ls h few) p);
      slots = ap (λ (s : LentReading). s.slots) so;
    }

-- ---- a run of calls is the run of the reading

module _ {l ss d m st : List ℕ} (t : FeedCall l ss d m st) (z : IsSized l ss) where
  code_is : t.code ≡ 0
  unfolding short
  code_is =
      t.call.answers.returns ∙ rw (← ladder-none l ss z, le-ltb (length t.words) 2 t.room) (sym (or-none 0))

  next-slots : st ≡ (feed_in l ss d).slots
  unfolding on_success
  next-slots = t.call.slots ∙ rw (eq-eqb t.code 0 code_is) refl

  same : moves (feed_in l ss d).fed ≡ false → m ≡ l
  same e = rw (on_none t.code (feed_in l ss d).fed e) at t.call.keeps.leaves

  took : lent_reading_in m st ≡ fed_reading (feed_in l ss d)
  took =
      either (moves (feed_in l ss d).fed) _
      (λ e.
      let k = t.call.keeps.reads_back (on-all t.code (feed_in l ss d).fed code_is e) z.0 in
      ap₂ (λ (y : KeptReading) (ss : List ℕ). lent_reading y.reading y.lengths ss) k next-slots)
      (λ e.
      let stays = feed-stays (lent_reading_in l ss) d e in
      ap₂ lent_reading_in (same e) (next-slots ∙ ap (λ (y : LentReading). y.slots) stays) ∙ sym stays)

  same_size : length m ≡ length l
  same_size =
      either (moves (feed_in l ss d).fed) _
      (λ e. let p : m ≡ put l 0 _ = rw (on-all t.code (feed_in l ss d).fed code_is e) at t.call.keeps.leaves in rw p (length-put l 0 _))
      (λ e. ap length (same e))

  next-sized : IsSized m st
  next-sized = (omega (arith, same_size, z.0), ap length next-slots ∙ feed-slots (lent_reading_in l ss) d ∙ z.1)

run : {l ss m st : List ℕ} {ds : List (List ℕ)} → IsSized l ss → Handed l ss ds m st → lent_reading_in m st ≡ reading_after (lent_reading_in l ss) ds
unfolding reading_after
run z none = refl
run z (one {ds = ds} t r) = run (next-sized t z) r ∙ ap (λ (x : LentReading). reading_after x ds) (took t z)

pub reading-hands-on : ReadingHandsOn
unfolding ReadingHandsOn
reading-hands-on l ss m st ds h z r = run (h, z) r

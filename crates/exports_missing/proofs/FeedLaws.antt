-- A start, a feed and a finish: what they answer and keep, and that a feed which uses no byte, and isn't over, changes nothing.
use Prim.Native.Nat.{ℕ, ◌≤◌, ◌<◌}
use mathlib.Core.List.{List, [], ◌∷◌}
use mathlib.Core.Bool.{Bool, true, false, not, ◌||◌}
use mathlib.Core.Path.{◌≡◌, refl, ap, ap₂, sym, ◌∙◌}
use native.Mathlib.Omega.{arith}
use lib.ListN.{length}
use lib.Dec.{ltb, eqb}
use borrow.Author.Tests.{lt-ltb, le-ltb, eq-eqb, ne_eqb, eqb-true, not-false}
use Rattle.wire.specs.Bounds.{session_size}
use Rattle.wire.specs.Output.{put}
use Rattle.wire.proofs.Outputs.{length-put}
use Rattle.capture_events.specs.declared.place.Place.{Place}
use Rattle.capture_events.specs.Events.{fold, is_over_at, At, read_piece}
use Rattle.capture_events.specs.Next.{at_of}
use Rattle.capture_events.proofs.EventLaws.{piece-stays}
use Rattle.missing_ranges.specs.Notes.{room}
use Rattle.missing_capture.specs.declared.reading.Reading.{Reading}
use Rattle.missing_capture.specs.declared.reading.Fed.{Fed}
use Rattle.missing_capture.specs.Reading.{start_reading, LentReading, lent_reading, reading_with, notes_in, LentFed, lent_fed, fed_reading, feed_of, finish_of}
use Rattle.capture_events.proofs.NextLaws.{place_at-at_of, at_place}
use Rattle.host_answers.specs.Answers.{or_else, short, flag, on_success, is_one_of, RefusesOnly, AnswersWith}
use Rattle.host_answers.proofs.AnswerLaws.{or-first, or-next, or-none, no-success}
use Rattle.host_answers.proofs.OnlyLaws.{only_ending}
use Rattle.host_states.specs.States.{on_code}
use Rattle.host_missing.specs.Reading.{missing_size, reading_in, lent_reading_in, KeepsMissing}
use Rattle.host_missing.proofs.ReadingLaws.{reading-ten, reading-not}
use Rattle.exports_missing.specs.Calls.{edges_ladder, StartsMissing, fed_words, on_feed, feed_in, FeedsMissing, finish_in, FinishesMissing, FeedCall, Handed, none, one, reading_after, MissingHandsOn}
use Rattle.exports_missing.proofs.LentLaws.{lent-good, lent-room}
use Rattle.exports_missing.proofs.NameLaws.{feed-ten, feed-long, finish-ten}

-- ---- a reading is started

pub starts-only : (r : ℕ) (b : Bool) → r ≡ or_else 0 (short b) → RefusesOnly r (41 ∷ [])
unfolding is_one_of
starts-only r b e = only_ending r 0 b (41 ∷ []) e refl refl

pub starts-missing : (r : ℕ) (l m : List ℕ) (x : Reading) → r ≡ or_else 0 (short (ltb (length l) missing_size)) → KeepsMissing (on_code r) l m x → x ≡ start_reading
    → StartsMissing r l m
starts-missing r l m x e k f = record { returns = e ∙ sym (or-next 0 _ refl); keeps = rw (← f) k }

-- ---- the reading in some bytes has a name of ten bytes, and so has whatever it is fed or finished to

module _ (l es d : List ℕ) where
  fed-ten : length (feed_in l es d).fed.reading.notes.session ≡ session_size
  fed-ten = feed-ten (lent_reading_in l es) d (reading-ten l)

  finished-ten : length (finish_in l es d).reading.notes.session ≡ session_size
  finished-ten = finish-ten (lent_reading_in l es) d (reading-ten l)

-- ---- a feed that uses no byte, and isn't over

either : (b : Bool) (P : Type 0) → (b ≡ true → P) → (b ≡ false → P) → P
either true P f g = f refl
either false P f g = g refl

both-none : (a b : Bool) → a || b ≡ false → (a ≡ false) × (b ≡ false)
both-none true b e = let z : ◌≡◌ {A = ℕ} 0 1 = cc in absurd (omega arith)
both-none false b e = (refl, e)

abbrev moves : Fed → Bool
moves f = not (eqb f.used 0) || is_over_at (at_of f.reading.place)

feed-stays : (x : LentReading) (l : List ℕ) → moves (feed_of x l).fed ≡ false → fed_reading (feed_of x l) ≡ x
unfolding feed_of fold
feed-stays x l b =
    let a : At = at_of x.reading.place in
    let n = both-none (not (eqb (read_piece a l).used 0)) _ b in
    let e = eqb-true _ _ (not-false (eqb (read_piece a l).used 0) n.0) in
    let o : is_over_at (read_piece a l).at ≡ false = ap is_over_at (sym (at_place (read_piece a l).at)) ∙ n.1 in
    rw (piece-stays a l e o) (ap (λ (p : Place). reading_with p (notes_in x)) (place_at-at_of x.reading.place))

on_none : (code : ℕ) (f : Fed) → moves f ≡ false → on_feed code f ≡ false
unfolding on_feed
on_none code f e = rw e (either (eqb code 0) _ (λ q. rw q refl) (λ q. rw q refl))

on-all : (code : ℕ) (f : Fed) → code ≡ 0 → moves f ≡ true → on_feed code f ≡ true
unfolding on_feed
on-all code f z e = rw (eq-eqb code 0 z) e

on-refusal : (code : ℕ) (f : Fed) → (code ≡ 0 → ⊥) → on_feed code f ≡ false
unfolding on_feed
on-refusal code f z = rw (ne_eqb code 0 z) refl

-- whether it moves, as the code has it
or-true : (b : Bool) → b || true ≡ true
or-true true = refl
or-true false = refl

module _ (n : ℕ) (o : Bool) where
  pub moved-used : (n ≡ 0 → ⊥) → not (eqb n 0) || o ≡ true
  moved-used z = rw (ne_eqb n 0 z) refl

  pub moved-over : o ≡ true → not (eqb n 0) || o ≡ true
  moved-over e = rw e (or-true (not (eqb n 0)))

  pub not-moved : n ≡ 0 → o ≡ false → not (eqb n 0) || o ≡ false
  not-moved e f = rw (eq-eqb n 0 e, f) refl

-- ---- a refusal changes nothing

module _ (l es d : List ℕ) where
  feed-refused : (r : ℕ) (ws : List ℕ) → (r ≡ 0 → ⊥) → r ≡ or_else (edges_ladder l es) (short (ltb (length ws) 2)) → FeedsMissing r l l es es d ws ws
  feed-refused r ws z e =
      record {
        answers = record { returns = e; words = no-success r _ ws z };
        keeps = rw (on-refusal r (feed_in l es d).fed z) (reading-not (feed_in l es d).fed.reading l 41 (fed-ten l es d) (λ q. omega arith));
        edges = no-success r _ es z;
      }

  module _ (k : ℕ) (e : k ≡ edges_ladder l es) where
    pub feeds-refused : (ws : List ℕ) → (k ≡ 0 → ⊥) → FeedsMissing k l l es es d ws ws
    feeds-refused ws z = feed-refused k ws z (rw (← e) (or-first k (short (ltb (length ws) 2)) z))

    pub feeds-words : (ws : List ℕ) → k ≡ 0 → length ws < 2 → FeedsMissing 41 l l es es d ws ws
    unfolding short
    feeds-words ws z w = feed-refused 41 ws (λ q. omega arith) (rw (lt-ltb (length ws) 2 w) (or-next _ 41 (sym e ∙ z)))

    pub finishes-refused : (k ≡ 0 → ⊥) → FinishesMissing k l l es es d
    finishes-refused z =
        record {
          returns = e;
          keeps = reading-not (finish_in l es d).reading l k (finished-ten l es d) z;
          edges = no-success k _ es z;
        }

-- ---- a feed with memory that isn't refused: x was read, and fed to k

-- what is laid by a code of 0 where there is room
laid_none : (r code : ℕ) (l es : List ℕ) → edges_ladder l es ≡ 0 → code ≡ 0 → r ≡ or_else code (short (ltb (length l) missing_size)) → r ≡ 0
unfolding short
laid_none r code l es z n e = e ∙ rw (le-ltb (length l) missing_size (lent-room l es z)) (sym (or-none code) ∙ n)

module _ (l es d ws ws' : List ℕ) (x : Reading) (k : Fed) (es' : List ℕ) (code : ℕ) (o : Bool) (n : ℕ) (z : edges_ladder l es ≡ 0) (w : 2 ≤ length ws)
    (a : x ≡ reading_in l) (e : lent_fed k es' ≡ feed_of (lent_reading x es) d) (v : o ≡ is_over_at (at_of k.reading.place)) (u : n ≡ flag o)
    (t : AnswersWith code ws ws' 0 (k.used ∷ n ∷ [])) where
  fed-so : lent_fed k es' ≡ feed_in l es d
  fed-so = e ∙ ap (λ (y : Reading). feed_of (lent_reading y es) d) a

  pub feed-none : code ≡ 0
  unfolding short
  feed-none = t.returns ∙ rw (le-ltb (length ws) 2 w) (sym (or-next 0 0 refl))

  answered : AnswersWith code ws ws' (edges_ladder l es) (fed_words (feed_in l es d).fed)
  answered = rw (z, ← fed-so, ← v, ← u) t

  edges-so : es' ≡ on_success code (feed_in l es d).edges es
  unfolding on_success
  edges-so = ap (λ (f : LentFed). f.edges) fed-so ∙ rw (eq-eqb code 0 feed-none) refl

  ten-so : length k.reading.notes.session ≡ session_size
  ten-so = ap (λ (f : LentFed). length f.fed.reading.notes.session) fed-so ∙ fed-ten l es d

  module _ (r : ℕ) (q : r ≡ or_else code (short (ltb (length l) missing_size))) where
    pub laid-zero : r ≡ 0
    laid-zero = laid_none r code l es z feed-none q

    pub feeds-laid : (m : List ℕ) → not (eqb k.used 0) || o ≡ true → KeepsMissing (on_code r) l m k.reading → FeedsMissing r l m es es' d ws ws'
    feeds-laid m b p =
        let g : moves k ≡ true = rw v at b in
        let same : r ≡ code = laid-zero ∙ sym feed-none in
        let kept : KeepsMissing true l m k.reading = rw (eq-eqb r 0 laid-zero) at p in
        rw same (record { answers = answered; keeps = rw (← fed-so, on-all code k feed-none g) kept; edges = edges-so })

  pub feeds-more : not (eqb k.used 0) || o ≡ false → FeedsMissing code l l es es' d ws ws'
  feeds-more b =
      let g : moves k ≡ false = rw v at b in
      record {
        answers = answered;
        keeps = rw (← fed-so, on_none code k g) (reading-not k.reading l 41 ten-so (λ q. omega arith));
        edges = edges-so;
      }

-- ---- a finish: x was read, and finished to y

module _ (l es d : List ℕ) (k : ℕ) (x y : Reading) (es' m : List ℕ) (r : ℕ) (e : k ≡ edges_ladder l es) (z : k ≡ 0) (q : r ≡ or_else 0 (short (ltb (length l) missing_size))) where
  pub finish-zero : r ≡ 0
  finish-zero = laid_none r 0 l es (sym e ∙ z) refl q

  pub finishes-so : x ≡ reading_in l → lent_reading y es' ≡ finish_of (lent_reading x es) d → KeepsMissing (on_code r) l m y → FinishesMissing r l m es es' d
  unfolding on_success
  finishes-so a f p =
      let so : lent_reading y es' ≡ finish_in l es d = f ∙ ap (λ (s : Reading). finish_of (lent_reading s es) d) a in
      record {
        returns = finish-zero ∙ sym z ∙ e;
        keeps = rw (← so) p;
        edges = ap (λ (s : LentReading). s.edges) so ∙ rw (eq-eqb r 0 finish-zero) refl;
      }

-- ---- a run of calls is the run of the reading

module _ {l es d m et : List ℕ} (t : FeedCall l es d m et) (z : edges_ladder l es ≡ 0) where
  code_is : t.code ≡ 0
  unfolding short
  code_is = t.call.answers.returns ∙ rw (z, le-ltb (length t.words) 2 t.room) (sym (or-none 0))

  next-edges : et ≡ (feed_in l es d).edges
  unfolding on_success
  next-edges = t.call.edges ∙ rw (eq-eqb t.code 0 code_is) refl

  same : moves (feed_in l es d).fed ≡ false → m ≡ l
  same e = rw (on_none t.code (feed_in l es d).fed e) at t.call.keeps.leaves

  took : lent_reading_in m et ≡ fed_reading (feed_in l es d)
  took =
      either (moves (feed_in l es d).fed) _
      (λ e. ap₂ lent_reading (t.call.keeps.reads_back (on-all t.code (feed_in l es d).fed code_is e) (lent-room l es z)) next-edges)
      (λ e.
      let stays = feed-stays (lent_reading_in l es) d e in
      ap₂ lent_reading_in (same e) (next-edges ∙ ap (λ (y : LentReading). y.edges) stays) ∙ sym stays)

  same_size : length m ≡ length l
  same_size =
      either (moves (feed_in l es d).fed) _
      (λ e. let p : m ≡ put l 0 _ = rw (on-all t.code (feed_in l es d).fed code_is e) at t.call.keeps.leaves in rw p (length-put l 0 _))
      (λ e. ap length (same e))

  next-lent : length es ≡ room → (edges_ladder m et ≡ 0) × (length et ≡ room)
  next-lent h =
      let long : length et ≡ room = ap length next-edges ∙ feed-long (lent_reading_in l es) d ∙ h in
      (sym (lent-good m et 0 refl (omega (arith, same_size, lent-room l es z)) long), long)

run : {l es m et : List ℕ} {ds : List (List ℕ)} → edges_ladder l es ≡ 0 → length es ≡ room → Handed l es ds m et → lent_reading_in m et ≡ reading_after (lent_reading_in l es) ds
unfolding reading_after
run z h none = refl
run z h (one {ds = ds} t r) = let n = next-lent t z h in run n.0 n.1 r ∙ ap (λ (x : LentReading). reading_after x ds) (took t z)

pub missing-hands-on : MissingHandsOn
unfolding MissingHandsOn
missing-hands-on l es m et ds h z r = run (sym (lent-good l es 0 refl h z)) z r

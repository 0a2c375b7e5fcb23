-- What a list of datagrams comes to is what the accepted ones of them say.
use mathlib.Core.Path.{◌≡◌, refl, ap, sym, subst, ◌∙◌}
use mathlib.Core.List.{List, [], ◌∷◌, ◌++◌, append_assoc, append-nil}
use mathlib.Core.Bool.{Bool, true, false, ◌&&◌}
use Prim.Native.Nat.{ℕ, ◌+◌, ◌≤◌}
use native.Mathlib.Omega.{arith}
use lib.ListN.{length, take, drop, take-append-drop}
use lib.Seq.{take_at}
use lib.Dec.{eqb, ltb, leb}
use borrow.Author.Tests.{eqb-true, ne_eqb}
use Rattle.std.specs.Prelude.{if◌then◌else◌}
use Rattle.wire.specs.Bounds.{largest_number, session_size}
use Rattle.wire.specs.Bytes.{number, bytes, same_bytes}
use Rattle.wire.specs.Text.{readroom}
use Rattle.moldudp64.specs.Header.{number_of, count_of, header}
use Rattle.moldudp64.specs.Blocks.{block_length, fits, all_fit, after_blocks, blocks_refusal, blocks_of}
use Rattle.moldudp64.specs.Downstream.{kind_of_count, block_count, refusal_of}
use Rattle.moldudp64.specs.Written.{encoded, encoded_end}
use Rattle.moldudp64.proofs.DownstreamLaws.{sound, count-sound}
use Rattle.missing_ranges.specs.Edges.{Range, range, ranges_of, total_from, listed_below, most_ranges, is_odd, halved, place_past, place_of, middle, replaced, without}
use Rattle.missing_ranges.specs.Notes.{Lent, is_usable, ranges_in, room, later, start_in, note_of}
use Rattle.missing_ranges.specs.Meaning as said
use Rattle.missing_ranges.proofs.MeaningLaws.{edges_over, all_ranges, lists-all}
use Rattle.missing_ranges.proofs.OneLaws.{same-list}
use Rattle.missing_ranges.proofs.HoldLaws.{noted-holds, noted-ranges, words-agree}
use Rattle.missing_ranges.proofs.PromiseLaws.{missing-promises}
use Rattle.missing_records.specs.Records.{accepted, next_in, LentNotes, lent_in, notes_with, start_notes, take_of, over}
use Rattle.missing_records.specs.Promises.{carries, CarriesItsMessages, is_carried, highest_of, ListsMissing, ListsWhatIsMissing, TotalIsExact, JustOne, NeedsMore, NeedsMoreWithin, example_datagrams, NotWeak, DatagramPromises}

-- ---- what the accepted ones of a list say

abbrev said_in : List ℕ → said.Said
said_in d = said.said (number_of d) (next_in d)

saids_if : Bool → List ℕ → List said.Said → List said.Said
saids_if true d ss = said_in d ∷ ss
saids_if false d ss = ss

saids_of : List ℕ → List (List ℕ) → List said.Said
saids_of name [] = []
saids_of name (d ∷ ds) = saids_if (accepted name d) d (saids_of name ds)

-- the missing ranges after a list are those of what it says, and the name stays
taken_yes : (x : LentNotes) (d : List ℕ) → accepted x.notes.session d ≡ true → take_of x d ≡ notes_with x.notes.session (note_of (lent_in x) (number_of d) (next_in d))
unfolding take_of
taken_yes x d e = rw e

taken-no : (x : LentNotes) (d : List ℕ) → accepted x.notes.session d ≡ false → take_of x d ≡ x
unfolding take_of
taken-no x d e = rw e

by-accepted : (P : Type 0) (name d : List ℕ) → (accepted name d ≡ true → P) → (accepted name d ≡ false → P) → P
by-accepted P name d f g = go (accepted name d) refl
  where
    go : (b : Bool) → accepted name d ≡ b → P
    go true e = f e
    go false e = g e

abbrev noted_by : LentNotes → List said.Said → LentNotes
noted_by x ss = notes_with x.notes.session (said.over (lent_in x) ss)

saids-yes : (name d : List ℕ) (ds : List (List ℕ)) → accepted name d ≡ true → saids_of name (d ∷ ds) ≡ said_in d ∷ saids_of name ds
unfolding saids_of saids_if
saids-yes name d ds e = rw e

saids-no : (name d : List ℕ) (ds : List (List ℕ)) → accepted name d ≡ false → saids_of name (d ∷ ds) ≡ saids_of name ds
unfolding saids_of saids_if
saids-no name d ds e = rw e

over-so : (x : LentNotes) (ds : List (List ℕ)) → over x ds ≡ noted_by x (saids_of x.notes.session ds)
unfolding over said.over saids_of
over-so x [] = refl
over-so x (d ∷ ds) =
    let name = x.notes.session in
    let y = notes_with name (note_of (lent_in x) (number_of d) (next_in d)) in
    let i = over-so y ds in
    let k = over-so x ds in
    by-accepted _ name d
    (λ e. ap (λ (z : LentNotes). over z ds) (taken_yes x d e) ∙ i ∙ ap (noted_by x) (sym (saids-yes name d ds e)))
    (λ e. ap (λ (z : LentNotes). over z ds) (taken-no x d e) ∙ k ∙ ap (noted_by x) (sym (saids-no name d ds e)))

carried-so : (name : List ℕ) (x : ℕ) (ds : List (List ℕ)) → is_carried name x ds ≡ said.is_carried x (saids_of name ds)
unfolding is_carried said.is_carried saids_of saids_if carries
carried-so name x [] = refl
carried-so name x (d ∷ ds) = go (accepted name d) (carried-so name x ds)
  where
    go : (b : Bool) → is_carried name x ds ≡ said.is_carried x (saids_of name ds)
        → (if (if b then leb (number_of d) x && ltb x (next_in d) else false) then true else is_carried name x ds) ≡ said.is_carried x (saids_if b d (saids_of name ds))
    go true i = ap (λ (c : Bool). if leb (number_of d) x && ltb x (next_in d) then true else c) i
    go false i = i

highest-so : (name : List ℕ) (n : ℕ) (ds : List (List ℕ)) → highest_of name n ds ≡ said.highest_of n (saids_of name ds)
unfolding highest_of said.highest_of saids_of saids_if
highest-so name n [] = refl
highest-so name n (d ∷ ds) = go (accepted name d) (highest-so name (later n (next_in d)) ds) (highest-so name n ds)
  where
    go : (b : Bool) → highest_of name (later n (next_in d)) ds ≡ said.highest_of (later n (next_in d)) (saids_of name ds) → highest_of name n ds ≡ said.highest_of n (saids_of name ds)
        → highest_of name (if b then later n (next_in d) else n) ds ≡ said.highest_of n (saids_if b d (saids_of name ds))
    go true i j = i
    go false i j = j

-- the numbers of an accepted datagram are numbers
accepted-well : (name d : List ℕ) → accepted name d ≡ true → refusal_of d ≡ 0
unfolding accepted
accepted-well name d e = eqb-true _ _ (first (eqb (refusal_of d) 0) (same_bytes (take session_size d) name) e)
  where
    first : (b c : Bool) → (if b then c else false) ≡ true → b ≡ true
    first true c f = refl
    first false c f = f

carries_its_messages : CarriesItsMessages
unfolding CarriesItsMessages
carries_its_messages name d e = ap (λ (k : ℕ). number_of d + k) (sym (count-sound d (accepted-well name d e)))

all-numbers : (name : List ℕ) (ds : List (List ℕ)) → said.AllNumbers (saids_of name ds)
unfolding said.AllNumbers saids_of saids_if
all-numbers name [] = tt
all-numbers name (d ∷ ds) = go (accepted name d) refl (all-numbers name ds)
  where
    go : (b : Bool) → accepted name d ≡ b → said.AllNumbers (saids_of name ds) → said.AllNumbers (saids_if b d (saids_of name ds))
    go true e i = ((sound d (accepted-well name d e)).numbers_fit, i)
    go false e i = i

saids-join : (name : List ℕ) (ds : List (List ℕ)) (d : List ℕ) → accepted name d ≡ true → saids_of name (ds ++ (d ∷ [])) ≡ saids_of name ds ++ (said_in d ∷ [])
unfolding saids_of saids_if
saids-join name [] d e = rw e
saids-join name (c ∷ ds) d e = go (accepted name c) (saids-join name ds d e)
  where
    go : (b : Bool) → saids_of name (ds ++ (d ∷ [])) ≡ saids_of name ds ++ (said_in d ∷ [])
        → saids_if b c (saids_of name (ds ++ (d ∷ []))) ≡ saids_if b c (saids_of name ds) ++ (said_in d ∷ [])
    go true i = ap (λ (ss : List said.Said). said_in c ∷ ss) i
    go false i = i

-- ---- the promises

lists-so : (name : List ℕ) (n : ℕ) (ds : List (List ℕ)) (rs : List Range) → said.ListsExactly n (saids_of name ds) rs → ListsMissing name n ds rs
lists-so name n ds rs e = record { exactly = λ x. e.exactly x ∙ rw (highest-so name n ds, carried-so name x ds); apart = e.apart }

module _ (name l : List ℕ) (n : ℕ) (ds : List (List ℕ)) where
  abbrev saids : List said.Said
  saids = saids_of name ds

  noted-so : lent_in (over (start_notes name l n) ds) ≡ said.noted l n saids
  noted-so = ap lent_in (over-so (start_notes name l n) ds)

  refused-so : (b : Bool) → (over (start_notes name l n) ds).notes.missing.refused ≡ b → (said.noted l n saids).missing.refused ≡ b
  refused-so b e = sym (ap (λ (x : Lent). x.missing.refused) noted-so) ∙ e

  lists : room ≤ length l → (over (start_notes name l n) ds).notes.missing.refused ≡ false → ListsMissing name n ds (ranges_in (lent_in (over (start_notes name l n) ds)))
  unfolding said.Exactly
  lists h r = rw noted-so (lists-so name n ds (ranges_in (said.noted l n saids)) (missing-promises.exactly l n saids h (refused-so false r)))

  total : room ≤ length l → n ≤ largest_number → (over (start_notes name l n) ds).notes.missing.refused ≡ false
      → total_from 0 (ranges_in (lent_in (over (start_notes name l n) ds))) ≡ listed_below (highest_of name n ds) (ranges_in (lent_in (over (start_notes name l n) ds)))
  unfolding said.TotalIsExact
  total h k r = rw (noted-so, highest-so name n ds) (missing-promises.total_is_exact l n saids h k (all-numbers name ds) (refused-so false r))

  few : room ≤ length l → (over (start_notes name l n) ds).notes.missing.refused ≡ false → length (ranges_in (lent_in (over (start_notes name l n) ds))) ≤ most_ranges
  few h r = rw noted-so (missing-promises.refuses_too_many.keeps_few l n saids h (refused-so false r))

  pub usable_after : room ≤ length l → (over (start_notes name l n) ds).notes.missing.refused ≡ false → is_usable (lent_in (over (start_notes name l n) ds)) ≡ true
  usable_after h r = rw noted-so (noted-holds l n saids h (refused-so false r)).usable

  -- whatever else the lent words were, the ranges are the same, and so is what is refused
  module _ (m : List ℕ) (h : room ≤ length l) (k : room ≤ length m) where
    pub refused-agree : (over (start_notes name l n) ds).notes.missing.refused ≡ (over (start_notes name m n) ds).notes.missing.refused
    refused-agree =
        ap (λ (x : LentNotes). x.notes.missing.refused) (over-so (start_notes name l n) ds)
        ∙ words-agree l m n saids h k
        ∙ sym (ap (λ (x : LentNotes). x.notes.missing.refused) (over-so (start_notes name m n) ds))

lists_what_is_missing : ListsWhatIsMissing
unfolding ListsWhatIsMissing
lists_what_is_missing = lists

total_is_exact : TotalIsExact
unfolding TotalIsExact
total_is_exact = total

-- the ranges of two lists of lent words
pub ranges-agree : (name l m : List ℕ) (n : ℕ) (ds : List (List ℕ)) → room ≤ length l → room ≤ length m
    → (over (start_notes name l n) ds).notes.missing.refused ≡ false
    → ranges_in (lent_in (over (start_notes name l n) ds)) ≡ ranges_in (lent_in (over (start_notes name m n) ds))
ranges-agree name l m n ds h k r =
    let q = sym (refused-agree name l n ds m h k) ∙ r in
    ap ranges_in (noted-so name l n ds)
    ∙ noted-ranges l n (saids_of name ds) h (refused-so name l n ds false r)
    ∙ sym (ap ranges_in (noted-so name m n ds) ∙ noted-ranges m n (saids_of name ds) k (refused-so name m n ds false q))

-- ---- what is refused

pub stays : (x : LentNotes) (d : List ℕ) → x.notes.missing.refused ≡ true → take_of x d ≡ x
stays x d r =
    by-accepted _ x.notes.session d
    (λ e. taken_yes x d e ∙ ap (notes_with x.notes.session) (missing-promises.refuses_too_many.stays (lent_in x) (said_in d) r))
    (taken-no x d)

over-more : (x : LentNotes) (ps : List (List ℕ)) (d : List ℕ) → over x (ps ++ (d ∷ [])) ≡ take_of (over x ps) d
unfolding over
over-more x [] d = refl
over-more x (p ∷ ps) d = over-more (take_of x p) ps d

pub session-stays : (x : LentNotes) (ds : List (List ℕ)) → (over x ds).notes.session ≡ x.notes.session
session-stays x ds = ap (λ (y : LentNotes). y.notes.session) (over-so x ds)

never : {A : Type 0} → false ≡ true → A
never e = let z : ◌≡◌ {A = ℕ} 0 1 = cc in absurd (omega arith)

module _ (name l : List ℕ) (n : ℕ) (h : room ≤ length l) where
  abbrev after : List (List ℕ) → LentNotes
  after ds = over (start_notes name l n) ds

  -- a datagram after which it is refused needs more
  module _ (ps : List (List ℕ)) (d : List ℕ) (r : (after ps).notes.missing.refused ≡ false) (q : (after (ps ++ (d ∷ []))).notes.missing.refused ≡ true) where
    now : (take_of (after ps) d).notes.missing.refused ≡ true
    now = sym (ap (λ (y : LentNotes). y.notes.missing.refused) (over-more (start_notes name l n) ps d)) ∙ q

    needs : accepted name d ≡ true → NeedsMore name n (ps ++ (d ∷ []))
    needs e =
        let f : accepted (after ps).notes.session d ≡ true = rw (session-stays (start_notes name l n) ps) e in
        let t : (note_of (lent_in (after ps)) (number_of d) (next_in d)).missing.refused ≡ true =
        sym (ap (λ (y : LentNotes). y.notes.missing.refused) (taken_yes (after ps) d f)) ∙ now in
        let u : (note_of (said.noted l n (saids_of name ps)) (number_of d) (next_in d)).missing.refused ≡ true =
        sym (ap (λ (y : Lent). (note_of y (number_of d) (next_in d)).missing.refused) (noted-so name l n ps)) ∙ t in
        let m = missing-promises.refuses_too_many.refuses_many l n (saids_of name ps) (said_in d) h (refused-so name l n ps false r) u in
        record {
          ranges = m.ranges;
          lists = lists-so name n (ps ++ (d ∷ [])) m.ranges (rw (saids-join name ps d e) m.lists);
          many = m.many;
        }

    cannot : accepted name d ≡ false → NeedsMore name n (ps ++ (d ∷ []))
    cannot e =
        let f : accepted (after ps).notes.session d ≡ false = rw (session-stays (start_notes name l n) ps) e in
        never (sym r ∙ sym (ap (λ (y : LentNotes). y.notes.missing.refused) (taken-no (after ps) d f)) ∙ now)

    needs_more : NeedsMore name n (ps ++ (d ∷ []))
    needs_more = by-accepted _ name d needs cannot

  within : (ps ds : List (List ℕ)) → (after ps).notes.missing.refused ≡ false → (after (ps ++ ds)).notes.missing.refused ≡ true
      → NeedsMoreWithin name n (ps ++ ds)
  within ps [] r q = never (sym r ∙ rw (append-nil ps) at q)
  within ps (d ∷ ds) r q = go (after (ps ++ (d ∷ []))).notes.missing.refused refl (within (ps ++ (d ∷ [])) ds)
    where
      joined : (ps ++ (d ∷ [])) ++ ds ≡ ps ++ (d ∷ ds)
      joined = append_assoc ps (d ∷ []) ds

      go : (b : Bool) → (after (ps ++ (d ∷ []))).notes.missing.refused ≡ b
          → ((after (ps ++ (d ∷ []))).notes.missing.refused ≡ false → (after ((ps ++ (d ∷ [])) ++ ds)).notes.missing.refused ≡ true → NeedsMoreWithin name n ((ps ++ (d ∷ [])) ++ ds))
          → NeedsMoreWithin name n (ps ++ (d ∷ ds))
      go true e i =
          record {
            first = length (ps ++ (d ∷ []));
            more = rw (← joined, take_at (ps ++ (d ∷ [])) ds (length (ps ++ (d ∷ []))) refl) (needs_more ps d r e);
          }
      go false e i = rw joined at (i e (rw joined q))

  at_first : (after []).notes.missing.refused ≡ false
  unfolding over start_in
  at_first = let z : length l ≡ 0 → ⊥ = λ (e : length l ≡ 0). omega arith in ne_eqb _ _ z

  refuses_many : (ds : List (List ℕ)) → (after ds).notes.missing.refused ≡ true → NeedsMoreWithin name n ds
  refuses_many ds q = within [] ds at_first q

-- ---- just one list, and what is refused at once

just_one : JustOne
unfolding JustOne
just_one name n ds rs qs a b = same-list 0 rs qs a.apart b.apart (λ x. a.exactly x ∙ sym (b.exactly x))

stays_over : (x : LentNotes) (ds : List (List ℕ)) → x.notes.missing.refused ≡ true → (over x ds).notes.missing.refused ≡ true
unfolding over
stays_over x [] r = r
stays_over x (d ∷ ds) r = stays_over (take_of x d) ds (ap (λ (y : LentNotes). y.notes.missing.refused) (stays x d r) ∙ r)

over-joined : (x : LentNotes) (ps ds : List (List ℕ)) → over x (ps ++ ds) ≡ over (over x ps) ds
unfolding over
over-joined x [] ds = refl
over-joined x (p ∷ ps) ds = over-joined (take_of x p) ps ds

at_once : (name l : List ℕ) (n : ℕ) (ds : List (List ℕ)) → room ≤ length l → NeedsMoreWithin name n ds → (over (start_notes name l n) ds).notes.missing.refused ≡ true
unfolding JustOne
at_once name l n ds h m = go (over (start_notes name l n) ps).notes.missing.refused refl
  where
    ps : List (List ℕ)
    ps = take m.first ds

    whole : over (over (start_notes name l n) (take m.first ds)) (drop m.first ds) ≡ over (start_notes name l n) ds
    whole = sym (over-joined (start_notes name l n) (take m.first ds) (drop m.first ds)) ∙ ap (over (start_notes name l n)) (take-append-drop m.first ds)

    go : (b : Bool) → (over (start_notes name l n) (take m.first ds)).notes.missing.refused ≡ b → (over (start_notes name l n) ds).notes.missing.refused ≡ true
    go true e = sym (ap (λ (y : LentNotes). y.notes.missing.refused) whole) ∙ stays_over (over (start_notes name l n) (take m.first ds)) (drop m.first ds) e
    go false e =
        let rs = ranges_in (lent_in (over (start_notes name l n) (take m.first ds))) in
        let a = lists name l n (take m.first ds) h e in
        let k = few name l n (take m.first ds) h e in
        let s : m.more.ranges ≡ rs = just_one name n (take m.first ds) m.more.ranges rs m.more.lists a in
        let c : length m.more.ranges ≡ length rs = ap length s in
        absurd (omega (arith, m.more.many))

-- ---- the example

saids-example : saids_of readroom example_datagrams ≡ said.said 1 3 ∷ said.said 5 6 ∷ said.said 9 9 ∷ said.said 4 4 ∷ said.said 7 8 ∷ []
unfolding saids_of saids_if accepted same_bytes refusal_of blocks_refusal all_fit fits after_blocks block_length block_count kind_of_count number_of count_of encoded encoded_end header bytes blocks_of number
saids-example = refl

example-ranges : all_ranges 1 (said.said 1 3 ∷ said.said 5 6 ∷ said.said 9 9 ∷ said.said 4 4 ∷ said.said 7 8 ∷ []) ≡ range 3 4 ∷ range 6 6 ∷ range 8 8 ∷ []
unfolding edges_over said.highest_of ranges_of without replaced middle place_past place_of halved is_odd later
example-ranges = refl

example-lists : ListsMissing readroom 1 example_datagrams (range 3 4 ∷ range 6 6 ∷ range 8 8 ∷ [])
example-lists =
    lists-so readroom 1 example_datagrams (range 3 4 ∷ range 6 6 ∷ range 8 8 ∷ [])
    (rw saids-example (subst (said.ListsExactly 1 (said.said 1 3 ∷ said.said 5 6 ∷ said.said 9 9 ∷ said.said 4 4 ∷ said.said 7 8 ∷ [])) example-ranges (lists-all 1 _)))

-- another list is as long
as_long : (rs : List Range) → ListsMissing readroom 1 example_datagrams rs → length rs ≡ 3
unfolding JustOne
as_long rs s = ap length (just_one readroom 1 example_datagrams rs (range 3 4 ∷ range 6 6 ∷ range 8 8 ∷ []) s example-lists)

not_weak : NotWeak
not_weak =
    record {
      lists_nothing = λ s. let n = as_long [] s in omega arith;
      ranges_touch = λ s. let n = as_long (range 3 3 ∷ range 4 4 ∷ range 6 6 ∷ range 8 8 ∷ []) s in omega arith;
      forgets_a_half = λ s. let n = as_long (range 3 4 ∷ range 8 8 ∷ []) s in omega arith;
    }

pub datagram-promises : DatagramPromises
datagram-promises =
    record {
      carries_its_messages = carries_its_messages;
      lists_what_is_missing = lists_what_is_missing;
      just_one = just_one;
      total_is_exact = total_is_exact;
      refuses_too_many = record {
        keeps_few = few;
        refuses_many = λ name l n ds h q. refuses_many name l n h ds q;
        at_once = at_once;
        stays = stays;
      };
      not_vacuous = record { lists = example-lists };
      not_weak = not_weak;
    }

-- Events one by one, as the code has them, and that they are the events of all bytes.
use mathlib.Core.Path.{◌≡◌, refl, ap, sym, ◌∙◌}
use mathlib.Core.List.{List, [], ◌∷◌, ◌++◌}
use mathlib.Core.Bool.{true, false}
use Prim.Native.Nat.{ℕ, zero, suc, ◌+◌, ◌-◌, ◌≤◌, ◌<◌}
use native.Mathlib.Omega.{arith}
use native.Mathlib.Numerals.{sub-one}
use lib.ListN.{length, drop, length-drop, length-append}
use lib.Dec.{ltb}
use borrow.Author.Tests.{eq-eqb, ne_eqb}
use Rattle.wire.proofs.Cases.{zero_or_not}
use Rattle.wire.proofs.PartLaws.{drop-take}
use Rattle.capture_settings.specs.declared.settings.Opened.{Opened}
use Rattle.capture_settings.specs.Settings.{opened_of, settings_of}
use Rattle.capture_settings.proofs.OpenedLaws.{ok-read, err_read}
use Rattle.wire.specs.declared.refusal.Refusal.{Refusal}
use Rattle.std.specs.Prelude.{Result, Ok, Err, Option, Some, None}
use Rattle.capture_records.specs.Records.{most_records, record_size, is_whole, datagram_of, record_words, record_in_front, datagrams_of, rest_of}
use Rattle.capture_records.proofs.RecordLaws.{whole-within, said-short}
use Rattle.capture_records.proofs.FrontLaws.{front-is, by_front, is-part, datagrams-zero, datagrams-none, datagrams-some, rest-none, rest_some}
use Rattle.capture_events.specs.declared.place.Place.{Place}
use Rattle.capture_events.specs.declared.place.Place.TheVariants.{Settings, Records, Done, Refused}
use Rattle.capture_events.specs.declared.place.Found.{Found}
use Rattle.capture_events.specs.declared.place.Found.TheVariants as found
use Rattle.capture_events.specs.declared.place.Next.{Next}
use Rattle.capture_events.specs.Events.{Event, opened, bad_settings, datagram, fold, datagrams, At, settings, records, done, refused, is_over_at, Read, reads, read_to, read_records, read_settings, read_on, waits_at, end_at}
use Rattle.capture_events.specs.Next.{at_of, place_at, next_of, events_in, read_by, is_none, with_rest, OneByOne, EndsAt}
use Rattle.capture_events.proofs.EventLaws.{fold-joins, size_within, settings-so, settings-bad}

abbrev next : Option Found → Place → ℕ → Next
next f p n = record { event = f; place = p; used = n }

-- ---- places

pub place_at-at_of : (p : Place) → place_at (at_of p) ≡ p
unfolding place_at at_of
place_at-at_of Settings = refl
place_at-at_of (Records k) = refl
place_at-at_of Done = refl
place_at-at_of Refused = refl

pub at_place : (a : At) → at_of (place_at a) ≡ a
unfolding place_at at_of
at_place settings = refl
at_place (records k) = refl
at_place done = refl
at_place refused = refl

-- ---- the settings: o is what was read of l

module _ (l : List ℕ) (o : Result Opened Refusal) (e : o ≡ opened_of (settings_of l)) where
  pub look-bad : (r : Refusal) → o ≡ Err r → read_by (next (Some found.BadSettings) Refused (length l)) l ≡ next_of settings l
  unfolding at_of events_in next_of
  look-bad r f =
      let g : (settings_of l).refusal.number ≡ 0 → ⊥ = err_read (settings_of l) r (sym f ∙ e) in rw (ne_eqb _ _ g)

  pub look-good : (x : Opened) → o ≡ Ok x
      → read_by (next (Some (found.Opened x.settings)) (Records most_records) x.size) l ≡ next_of settings l
  unfolding at_of events_in next_of
  look-good x f =
      let g = ok-read (settings_of l) x (sym f ∙ e) in rw (eq-eqb _ _ g.good, g.settings, g.size)

-- ---- a record: p is the front of l

module _ (l : List ℕ) where
  pub look-most : (k : ℕ) → k ≡ 0 → read_by (next None Done (length l)) l ≡ next_of (records k) l
  unfolding at_of events_in next_of
  look-most k e = rw e

  pub look-short : (k : ℕ) (p : Option ℕ) → (k ≡ 0 → ⊥) → record_words p ≡ record_in_front l → p ≡ None
      → read_by (next None (Records k) 0) l ≡ next_of (records k) l
  unfolding at_of events_in next_of
  look-short zero p z e f = absurd (z refl)
  look-short (suc k) p z e f = rw (said-short l (rw f at e))

  pub look-whole : (k : ℕ) (p : Option ℕ) (n : ℕ) → (k ≡ 0 → ⊥) → record_words p ≡ record_in_front l → p ≡ Some n
      → read_by (next (Some found.Datagram) (Records (k - 1)) n) l ≡ next_of (records k) l
  unfolding at_of events_in next_of
  look-whole zero p n z e f = absurd (z refl)
  look-whole (suc k) p n z e f =
      let i = front-is l p n e f in
      rw (i.all, sub-one, ← i.size, drop-take 2 n l)

-- ---- by the place

module _ (p : Place) where
  module _ (r : Next) (l : List ℕ) where
    pub look-settings : p ≡ Settings → read_by r l ≡ next_of settings l → read_by r l ≡ next_of (at_of p) l
    unfolding at_of
    look-settings e h = rw e h

    pub look-records : (k : ℕ) → p ≡ Records k → read_by r l ≡ next_of (records k) l → read_by r l ≡ next_of (at_of p) l
    unfolding at_of
    look-records k e h = rw e h

  module _ (l : List ℕ) where
    pub look-done : p ≡ Done → read_by (next None p (length l)) l ≡ next_of (at_of p) l
    unfolding at_of events_in next_of
    look-done e = rw e

    pub look-refused : p ≡ Refused → read_by (next None p (length l)) l ≡ next_of (at_of p) l
    unfolding at_of events_in next_of
    look-refused e = rw e

  pub over-settings : p ≡ Settings → false ≡ is_over_at (at_of p)
  unfolding at_of is_over_at
  over-settings e = rw e

  pub over-records : (k : ℕ) → p ≡ Records k → false ≡ is_over_at (at_of p)
  unfolding at_of is_over_at
  over-records k e = rw e

  pub over_done : p ≡ Done → true ≡ is_over_at (at_of p)
  unfolding at_of is_over_at
  over_done e = rw e

  pub over-refused : p ≡ Refused → true ≡ is_over_at (at_of p)
  unfolding at_of is_over_at
  over-refused e = rw e

  pub waits-settings : (n : ℕ) → p ≡ Settings → ltb n 57 ≡ waits_at (at_of p) n
  unfolding at_of waits_at
  waits-settings n e = rw e

  pub waits-records : (n k : ℕ) → p ≡ Records k → false ≡ waits_at (at_of p) n
  unfolding at_of waits_at
  waits-records n k e = rw e

  pub waits-done : (n : ℕ) → p ≡ Done → false ≡ waits_at (at_of p) n
  unfolding at_of waits_at
  waits-done n e = rw e

  pub waits-refused : (n : ℕ) → p ≡ Refused → false ≡ waits_at (at_of p) n
  unfolding at_of waits_at
  waits-refused n e = rw e

  pub end-settings : p ≡ Settings → EndsAt p Settings
  unfolding at_of end_at
  end-settings e n = rw e

  pub end-records : (k : ℕ) → p ≡ Records k → EndsAt p Done
  unfolding at_of end_at
  end-records k e n = rw e (zero_or_not _ n (λ h. rw (eq-eqb _ _ h)) (λ h. rw (ne_eqb _ _ h)))

  pub end-done : p ≡ Done → EndsAt p Done
  unfolding at_of end_at
  end-done e n = rw e

  pub end_refused : p ≡ Refused → EndsAt p Refused
  unfolding at_of end_at
  end_refused e n = rw e

-- ---- one by one they are all

to-cons : (n : ℕ) (d : List ℕ) (ds : List (List ℕ)) (rest l m : List ℕ) (size : ℕ) → length l ≡ size + length m → length rest ≤ length m
    → read_to n (d ∷ ds) rest l ≡ reads (read_to n ds rest m).at (datagram d ∷ (read_to n ds rest m).events) (size + (read_to n ds rest m).used)
unfolding read_to datagrams
to-cons zero d ds rest l m size e h = rw e
to-cons (suc n) d ds rest l m size e h = let g : length l - length rest ≡ size + (length m - length rest) = omega arith in rw g

-- a list of events that goes on
with-some : (a : At) (e : Event) (n : ℕ) (l : List ℕ)
    → with_rest (reads a (e ∷ []) n) l ≡ reads (read_on a (drop n l)).at (e ∷ (read_on a (drop n l)).events) (n + (read_on a (drop n l)).used)
unfolding with_rest is_none
with-some a e n l = refl

with_none : (a : At) (n : ℕ) (l : List ℕ) → with_rest (reads a [] n) l ≡ reads a [] n
unfolding with_rest is_none
with_none a n l = refl

-- by what the records are
by-records : (k : ℕ) (l : List ℕ) (ds : List (List ℕ)) (rest : List ℕ) (n : ℕ) → datagrams_of k l ≡ ds → rest_of k l ≡ rest → k - length ds ≡ n
    → read_records k l ≡ read_to n ds rest l
unfolding read_records
by-records k l ds rest n e f g = rw (e, f, g)

on-records : (k : ℕ) (l : List ℕ) → read_on (records k) l ≡ read_to (k - length (datagrams_of k l)) (datagrams_of k l) (rest_of k l) l
unfolding read_on read_records
on-records k l = refl

to_none : (k : ℕ) (l : List ℕ) → read_to (suc k) [] l l ≡ reads (records (suc k)) [] 0
unfolding read_to datagrams
to_none k l = let e : length l - length l ≡ 0 = omega arith in rw e

to_end : (rest l : List ℕ) → read_to 0 [] rest l ≡ reads done [] (length l)
unfolding read_to datagrams
to_end rest l = refl

module _ (k : ℕ) (l : List ℕ) where
  next-whole : is_whole l ≡ true → next_of (records (suc k)) l ≡ reads (records k) (datagram (datagram_of l) ∷ []) (record_size l)
  unfolding next_of
  next-whole w = rw w

  next-short : is_whole l ≡ false → next_of (records (suc k)) l ≡ reads (records (suc k)) [] 0
  unfolding next_of
  next-short w = rw w

  one-short : is_whole l ≡ false → read_records (suc k) l ≡ with_rest (next_of (records (suc k)) l) l
  one-short w =
      by-records (suc k) l [] l (suc k) (datagrams-none k l w) (rest-none k l w) (omega arith)
      ∙ to_none k l
      ∙ sym (with_none (records (suc k)) 0 l)
      ∙ ap (λ (r : Read). with_rest r l) (sym (next-short w))

  one-whole : is_whole l ≡ true → read_records (suc k) l ≡ with_rest (next_of (records (suc k)) l) l
  one-whole w =
      let m = drop (record_size l) l in
      let ds = datagrams_of k m in
      let i = whole-within l w in
      let n : length l ≡ record_size l + length m = omega (arith, i.most, length-drop (record_size l) l) in
      by-records (suc k) l (datagram_of l ∷ ds) (rest_of k m) (k - length ds) (datagrams-some k l w) (rest_some k l w) (omega arith)
      ∙ to-cons (k - length ds) (datagram_of l) ds (rest_of k m) l m (record_size l) n (is-part k m).within
      ∙ ap (λ (r : Read). reads r.at (datagram (datagram_of l) ∷ r.events) (record_size l + r.used)) (sym (on-records k m))
      ∙ sym (with-some (records k) (datagram (datagram_of l)) (record_size l) l)
      ∙ ap (λ (r : Read). with_rest r l) (sym (next-whole w))

records-one : (k : ℕ) (l : List ℕ) → read_records k l ≡ with_rest (next_of (records k) l) l
unfolding next_of
records-one zero l = by-records 0 l [] (rest_of 0 l) 0 (datagrams-zero l) refl (omega arith) ∙ to_end (rest_of 0 l) l ∙ sym (with_none done (length l) l)
records-one (suc k) l = by_front _ l (one-whole k l) (one-short k l)

module _ (l : List ℕ) where
  next-good : (settings_of l).refusal.number ≡ 0 → next_of settings l ≡ reads (records most_records) (opened (settings_of l).settings ∷ []) (settings_of l).size
  unfolding next_of
  next-good z = rw (eq-eqb _ _ z)

  next-bad : ((settings_of l).refusal.number ≡ 0 → ⊥) → next_of settings l ≡ reads refused (bad_settings ∷ []) (length l)
  unfolding next_of
  next-bad z = rw (ne_eqb _ _ z)

  one-good : (settings_of l).refusal.number ≡ 0 → read_settings l ≡ with_rest (next_of settings l) l
  unfolding read_on
  one-good z =
      settings-so l z
      ∙ sym (with-some (records most_records) (opened (settings_of l).settings) (settings_of l).size l)
      ∙ ap (λ (r : Read). with_rest r l) (sym (next-good z))

  one-bad : ((settings_of l).refusal.number ≡ 0 → ⊥) → read_settings l ≡ with_rest (next_of settings l) l
  unfolding read_on
  one-bad z =
      let n : length l ≡ length l + length (drop (length l) l) = omega (arith, length-drop (length l) l) in
      settings-bad l z
      ∙ ap (reads refused (bad_settings ∷ [])) n
      ∙ sym (with-some refused bad_settings (length l) l)
      ∙ ap (λ (r : Read). with_rest r l) (sym (next-bad z))

  settings-one : read_settings l ≡ with_rest (next_of settings l) l
  settings-one = zero_or_not _ (settings_of l).refusal.number one-good one-bad

pub one_by_one : OneByOne
unfolding OneByOne read_on next_of
one_by_one settings l = settings-one l
one_by_one (records k) l = records-one k l
one_by_one done l = sym (with_none done (length l) l)
one_by_one refused l = sym (with_none refused (length l) l)

-- ---- a loop over events, whatever is made of them: n is what `look` read of the bytes l that are left

pub next-used : (a : At) (l : List ℕ) → (next_of a l).used ≤ length l
unfolding next_of
next-used settings l = zero_or_not _ (settings_of l).refusal.number (λ z. rw (eq-eqb _ _ z) (size_within l)) (λ z. rw (ne_eqb _ _ z) (omega arith))
next-used (records zero) l = omega arith
next-used (records (suc k)) l = by_front _ l (λ w. rw w (whole-within l w).most) (λ w. rw w (omega arith))
next-used done l = omega arith
next-used refused l = omega arith

some : (es : List Event) → is_none es ≡ false → 0 < length es
unfolding is_none
some [] e = let z : ◌≡◌ {A = ℕ} 0 1 = cc in absurd (omega arith)
some (x ∷ es) e = omega arith

none : (es : List Event) → is_none es ≡ true → es ≡ []
unfolding is_none
none [] e = refl
none (y ∷ es) e = let z : ◌≡◌ {A = ℕ} 0 1 = cc in absurd (omega arith)

-- what is still to be read, a and then l, makes of x what a₀ and l₀ make of x₀
pub record Going {S : Type 0} (step : S → Event → S) (x₀ : S) (a₀ : At) (l₀ : List ℕ) (x : S) (a : At) (l : List ℕ) : Type 0 where
  pub folds : fold step x (read_on a l).events ≡ fold step x₀ (read_on a₀ l₀).events
  pub comes : (read_on a l).at ≡ (read_on a₀ l₀).at
  pub uses : length l₀ - length l + (read_on a l).used ≡ (read_on a₀ l₀).used
  pub shorter : length l ≤ length l₀

one : (a : At) (l : List ℕ) → read_on a l ≡ with_rest (next_of a l) l
unfolding OneByOne
one = one_by_one

pub going_start : {S : Type 0} (step : S → Event → S) (x : S) (a : At) (l : List ℕ) → Going step x a l x a l
going_start step x a l = record { folds = refl; comes = refl; uses = omega arith; shorter = omega arith }

module _ {S : Type 0} (step : S → Event → S) (x₀ : S) (a₀ : At) (l₀ : List ℕ) (x : S) (a : At) (l : List ℕ) (g : Going step x₀ a₀ l₀ x a l) (n : Read) (e : n ≡ next_of a l) where
  all-is : read_on a l ≡ with_rest n l
  all-is = one a l ∙ ap (λ (r : Read). with_rest r l) (sym e)

  pub going-within : n.used ≤ length l
  going-within = rw e (next-used a l)

  -- an event was read
  module _ (s : is_none n.events ≡ false) where
    rest-so : read_on a l ≡ reads (read_on n.at (drop n.used l)).at (n.events ++ (read_on n.at (drop n.used l)).events) (n.used + (read_on n.at (drop n.used l)).used)
    unfolding with_rest
    rest-so = all-is ∙ rw s

    pub going_next : (y : S) → y ≡ fold step x n.events → Going step x₀ a₀ l₀ y n.at (drop n.used l)
    going_next y f =
        let l₁ = drop n.used l in
        let u : (read_on a l).used ≡ n.used + (read_on n.at l₁).used = ap (λ (r : Read). r.used) rest-so in
        let k = length-drop n.used l in
        record {
          folds =
              ap (λ (z : S). fold step z (read_on n.at l₁).events) f
              ∙ sym (fold-joins step x n.events (read_on n.at l₁).events)
              ∙ sym (ap (λ (r : Read). fold step x r.events) rest-so)
              ∙ g.folds;
          comes = sym (ap (λ (r : Read). r.at) rest-so) ∙ g.comes;
          uses = omega (arith, g.uses, g.shorter, going-within);
          shorter = omega (arith, g.shorter);
        }

    pub going_less : length (read_on n.at (drop n.used l)).events < length (read_on a l).events
    going_less =
        let b : length (read_on a l).events ≡ length (n.events ++ (read_on n.at (drop n.used l)).events) = ap (λ (r : Read). length r.events) rest-so in
        omega (arith, length-append n.events (read_on n.at (drop n.used l)).events, some n.events s)

  -- none was: all is read
  module _ (s : is_none n.events ≡ true) where
    all_so : read_on a l ≡ n
    unfolding with_rest
    all_so = all-is ∙ rw s

    pub going-folded : x ≡ fold step x₀ (read_on a₀ l₀).events
    unfolding fold
    going-folded = sym (ap (λ (r : Read). fold step x r.events) all_so ∙ ap (fold step x) (none n.events s)) ∙ g.folds

    pub going-at : n.at ≡ (read_on a₀ l₀).at
    going-at = sym (ap (λ (r : Read). r.at) all_so) ∙ g.comes

    pub going-used : length l₀ - length l + n.used ≡ (read_on a₀ l₀).used
    going-used = let u : (read_on a l).used ≡ n.used = ap (λ (r : Read). r.used) all_so in omega (arith, g.uses)

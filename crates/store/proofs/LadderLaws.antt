-- The ladder of an answer, as the code climbs it: g is what the setting gave, a what is asked, p what is picked.
use Prim.Native.Nat.{ℕ, suc, ◌-◌, ◌≤◌, min}
use mathlib.Core.List.{List}
use mathlib.Core.Bool.{Bool, true, false, not}
use mathlib.Core.Path.{◌≡◌, refl, sym, ap, ◌∙◌}
use native.Mathlib.Omega.{arith}
use lib.ListN.{length, take, drop, length-drop}
use lib.Seq.{take_all, take-take, length-take-le}
use lib.Dec.{eqb}
use borrow.Author.Tests.{ne_eqb, eqb-true, eqb-false}
use Rattle.std.specs.Prelude.{if◌then◌else◌, Option, Some, None, Result, Ok, Err}
use Rattle.wire.specs.declared.refusal.Refusal.{Refusal}
use Rattle.wire.specs.Bytes.{same_bytes}
use Rattle.wire.proofs.Cases.{below_or_not}
use Rattle.moldudp64.specs.Header.{number_of, count_of}
use Rattle.moldudp64.specs.Request.{request_refusal, request_session}
use Rattle.moldudp64.proofs.RequestLaws.{request-sound}
use Rattle.moldudp64_writer.specs.Writer.{total, add_up, encoded_cut, packet_ground}
use Rattle.moldudp64_writer.proofs.WriterLaws.{Writable, not-writable}
use Rattle.packing.specs.Fit.{size_ground, fits_alone, Most}
use Rattle.packing.proofs.FitLaws.{most-not}
use Rattle.packing.proofs.GroupLaws.{handed-on}
use Rattle.packing.proofs.PartLaws.{cut-part, total-take, total-drop, part-whole}
use Rattle.store.specs.Store.{Store, numbers_ground, store_ground, place_of, in_store, length_at, answer_ground, how_many, chosen, answer_bytes}
use Rattle.store.specs.declared.ask.Asked.{Asked}
use Rattle.store.specs.declared.pick.Picked.{Picked}
use Rattle.store.specs.Steps.{setting_ground, is_held, ask_refused, ask_held, ask_from, ask_of, wanted_lengths, pick_most, pick_of, taken_lengths, taken_data, Within}
use Rattle.store.proofs.AnswerLaws.{Good, good, Placed, placed, wanted-from, some-chosen, is-the-most, within-wanted, within-store, wants-some}

-- ---- the setting

module _ (st : Store) (size : ℕ) where
  setting-is : setting_ground st.first (length st.lengths) size ≡ (if not (eqb (size_ground size) 0) then size_ground size else numbers_ground st)
  unfolding setting_ground numbers_ground
  setting-is = refl

  setting-refuses : (g : ℕ) → g ≡ setting_ground st.first (length st.lengths) size → (g ≡ 0 → ⊥) → store_ground st size ≡ g
  unfolding store_ground
  setting-refuses g e z = go (eqb (size_ground size) 0) refl (e ∙ setting-is)
    where
      go : (t : Bool) → eqb (size_ground size) 0 ≡ t → g ≡ (if not t then size_ground size else numbers_ground st)
          → (if not t then size_ground size else if not (eqb (numbers_ground st) 0) then numbers_ground st else if not (add_up st.lengths st.joined) then 44 else 0) ≡ g
      go false b f = sym f
      go true b f = let n : eqb (numbers_ground st) 0 ≡ false = ne_eqb _ _ (λ (y : numbers_ground st ≡ 0). z (f ∙ y)) in rw n (sym f)

  setting-passes : setting_ground st.first (length st.lengths) size ≡ 0 → store_ground st size ≡ (if not (add_up st.lengths st.joined) then 44 else 0)
  unfolding store_ground
  setting-passes e =
      let h = handed-on (size_ground size) (numbers_ground st) (sym setting-is ∙ e) in
      rw (h.0, h.1)

-- ---- the lengths and the data

none-picked : (ks : List ℕ) (d place count room : ℕ) → None ≡ pick_of ks d place count room → eqb (total ks) d ≡ false
unfolding pick_of
none-picked ks d place count room e = go (eqb (total ks) d) e
  where
    go : (t : Bool) → ◌≡◌ {A = Option Picked} None (if t then Some (pick_most ks place count room) else None) → t ≡ false
    go true f = let z : ◌≡◌ {A = ℕ} 0 1 = cc in absurd (omega arith)
    go false f = refl

-- where they add up
record Picks (ks : List ℕ) (d place count room : ℕ) (p : Picked) : Type 0 where
  add_up : eqb (total ks) d ≡ true
  most : p ≡ pick_most ks place count room

picks : (ks : List ℕ) (d place count room : ℕ) (p : Picked) → Some p ≡ pick_of ks d place count room → Picks ks d place count room p
unfolding pick_of
picks ks d place count room p e = go (eqb (total ks) d) refl e
  where
    go : (t : Bool) → eqb (total ks) d ≡ t → ◌≡◌ {A = Option Picked} (Some p) (if t then Some (pick_most ks place count room) else None) → Picks ks d place count room p
    go true b f = record { add_up = b; most = cc }
    go false b f = let z : ◌≡◌ {A = ℕ} 0 1 = cc in absurd (omega arith)

-- ---- the request

-- what is asked where it isn't refused
record Asks (st : Store) (q : List ℕ) (a : Asked) : Type 0 where
  good : request_refusal q ≡ 0
  same : same_bytes (request_session q) st.session ≡ true
  there : in_store st (number_of q) ≡ true
  number : a.number.0 ≡ number_of q
  place : a.place ≡ place_of st (number_of q)
  count : a.count ≡ min (count_of q) (length st.lengths - place_of st (number_of q))

abbrev asked_by : Store → List ℕ → Bool → Bool → Bool → Result Asked Refusal
asked_by st q t u v =
    if not t then ask_refused (request_refusal q)
    else if not u then ask_refused 53
    else if v then Ok (ask_held st.first (length st.lengths) (number_of q) (count_of q))
    else ask_refused 51

module _ (st : Store) (q : List ℕ) where
  asks : (a : Asked) → Ok a ≡ ask_of st.session st.first (length st.lengths) q → Asks st q a
  unfolding ask_of ask_from is_held in_store
  asks a e = go (eqb (request_refusal q) 0) refl (same_bytes (request_session q) st.session) refl (in_store st (number_of q)) refl e
    where
      go : (t : Bool) → eqb (request_refusal q) 0 ≡ t → (u : Bool) → same_bytes (request_session q) st.session ≡ u → (v : Bool) → in_store st (number_of q) ≡ v
          → Ok a ≡ asked_by st q t u v → Asks st q a
      go false b u c v d f = let z : ◌≡◌ {A = ℕ} 0 1 = cc in absurd (omega arith)
      go true b false c v d f = let z : ◌≡◌ {A = ℕ} 0 1 = cc in absurd (omega arith)
      go true b true c false d f = let z : ◌≡◌ {A = ℕ} 0 1 = cc in absurd (omega arith)
      go true b true c true d f =
          let k : a ≡ ask_held st.first (length st.lengths) (number_of q) (count_of q) = cc in
          record {
            good = eqb-true _ _ b;
            same = c;
            there = d;
            number = ap (λ (x : Asked). x.number.0) k;
            place = ap (λ (x : Asked). x.place) k;
            count = ap (λ (x : Asked). x.count) k;
          }

  record AsksNot (x : ℕ) (r : Refusal) : Type 0 where
    ground : (if not (eqb (request_refusal q) 0) then request_refusal q else if not (same_bytes (request_session q) st.session) then 53 else if not (in_store st (number_of q)) then 51 else x) ≡ r.number
    is_one : r.number ≡ 0 → ⊥

  asks-not : (x : ℕ) (r : Refusal) → Err r ≡ ask_of st.session st.first (length st.lengths) q → AsksNot x r
  unfolding ask_of ask_from is_held in_store
  asks-not x r e = record { ground = go (eqb (request_refusal q) 0) (same_bytes (request_session q) st.session) (in_store st (number_of q)) e; is_one = is (eqb (request_refusal q) 0) refl (same_bytes (request_session q) st.session) (in_store st (number_of q)) e }
    where
      go : (t u v : Bool) → Err r ≡ asked_by st q t u v
          → (if not t then request_refusal q else if not u then 53 else if not v then 51 else x) ≡ r.number
      go false u v f = cc
      go true false v f = cc
      go true true false f = cc
      go true true true f = let z : ◌≡◌ {A = ℕ} 0 1 = cc in absurd (omega arith)

      is : (t : Bool) → eqb (request_refusal q) 0 ≡ t → (u v : Bool) → Err r ≡ asked_by st q t u v → r.number ≡ 0 → ⊥
      is false b u v f z = let k : r.number ≡ request_refusal q = cc in eqb-false _ _ b (sym k ∙ z)
      is true b false v f z = let k : r.number ≡ 53 = cc in omega arith
      is true b true false f z = let k : r.number ≡ 51 = cc in omega arith
      is true b true true f z = let y : ◌≡◌ {A = ℕ} 0 1 = cc in absurd (omega arith)

-- the count wanted, and the store's end
take-wanted : (ks : List ℕ) (place c : ℕ) → take (min c (length ks - place)) (drop place ks) ≡ take c (drop place ks)
take-wanted ks place c =
    below_or_not (take (min c (length ks - place)) (drop place ks) ≡ take c (drop place ks)) c (length ks - place)
    (λ h. let e : min c (length ks - place) ≡ c = omega arith in rw e)
    (λ h.
    let e : min c (length ks - place) ≡ length ks - place = omega arith in
    rw e
    (take_all (length ks - place) (drop place ks) (omega (arith, length-drop place ks)) ∙ sym (take_all c (drop place ks) (omega (arith, length-drop place ks)))))

-- ---- what an answer is

module _ (st : Store) (size : ℕ) (q : List ℕ) where
  pub answer-setting : (setting_ground st.first (length st.lengths) size ≡ 0 → ⊥) → setting_ground st.first (length st.lengths) size ≡ answer_ground st size q
  unfolding answer_ground
  answer-setting z = let s = setting-refuses st size _ refl z in rw (s, ne_eqb _ _ z)

  module _ (zg : setting_ground st.first (length st.lengths) size ≡ 0) where
    pub answer-44 : add_up st.lengths st.joined ≡ false → 44 ≡ answer_ground st size q
    unfolding answer_ground
    answer-44 h =
        let s : store_ground st size ≡ 44 = setting-passes st size zg ∙ rw h in
        rw s

    module _ (hw : add_up st.lengths st.joined ≡ true) where
      no-store-ground : store_ground st size ≡ 0
      no-store-ground = setting-passes st size zg ∙ rw hw

      add-up : total st.lengths ≡ length st.joined
      add-up = eqb-true _ _ hw

      pub answer-ask : (r : Refusal) → Err r ≡ ask_of st.session st.first (length st.lengths) q → r.number ≡ answer_ground st size q
      unfolding answer_ground
      answer-ask r e = rw no-store-ground (sym (asks-not st q _ r e).ground)

    pub asked-ground : (r : Refusal) → Err r ≡ ask_of st.session st.first (length st.lengths) q → r.number ≡ 0 → ⊥
    asked-ground r e = (asks-not st q 0 r e).is_one

    module _ (a : Asked) (ea : Ok a ≡ ask_of st.session st.first (length st.lengths) q) (room : ℕ) (er : room ≡ size - 20) where
      pub answer-none : None ≡ pick_of st.lengths (length st.joined) a.place a.count room → 44 ≡ answer_ground st size q
      answer-none e = answer-44 (none-picked st.lengths (length st.joined) a.place a.count room e)

      module _ (p : Picked) (ep : Some p ≡ pick_of st.lengths (length st.joined) a.place a.count room) where
        is-picked : Picks st.lengths (length st.joined) a.place a.count room p
        is-picked = picks st.lengths (length st.joined) a.place a.count room p ep

        adds-up : total st.lengths ≡ length st.joined
        adds-up = eqb-true _ _ is-picked.add_up

        store-good : store_ground st size ≡ 0
        store-good = no-store-ground is-picked.add_up

        abbrev n : ℕ
        n = number_of q

        asked : Asks st q a
        asked = asks st q a ea

        is-good : Good st size
        is-good = good st size store-good

        is-placed : Placed st n
        is-placed = placed st n asked.there

        some : 1 ≤ count_of q
        some = wants-some _ _ (request-sound q asked.good).1

        -- what is picked is what is to be answered with
        the-wanted : wanted_lengths st.lengths a.place a.count ≡ take (count_of q) (drop (place_of st n) st.lengths)
        the-wanted = rw (asked.place, asked.count) (take-wanted st.lengths (place_of st n) (count_of q))

        picked-most : p ≡ pick_most st.lengths a.place a.count room
        picked-most = is-picked.most

        as_many : p.count ≡ how_many st size n (count_of q)
        unfolding how_many
        as_many = ap (λ (x : Picked). x.count) picked-most ∙ rw (the-wanted, er)

        fits-or-long : (t : Bool) → fits_alone (size - 20) (length_at st n) ≡ t → (if not t then 52 else 0) ≡ answer_ground st size q
        unfolding answer_ground
        fits-or-long t e = rw (store-good, asked.good, asked.same, asked.there, e)

        none-fits : fits_alone (size - 20) (length_at st n) ≡ false → how_many st size n (count_of q) ≡ 0
        unfolding how_many
        none-fits e =
            rw (wanted-from st n is-placed (count_of q) some)
            (most-not (size - 20) (length_at st n) (take (count_of q - 1) (drop (suc (place_of st n)) st.lengths)) e)

        pub answer-52 : p.count ≡ 0 → 52 ≡ answer_ground st size q
        answer-52 z = go (fits_alone (size - 20) (length_at st n)) refl
          where
            go : (t : Bool) → fits_alone (size - 20) (length_at st n) ≡ t → 52 ≡ answer_ground st size q
            go true e = let c = some-chosen st size is-good n (count_of q) is-placed e some in absurd (omega (arith, as_many))
            go false e = fits-or-long false e

        module _ (zc : p.count ≡ 0 → ⊥) where
          first_fits : fits_alone (size - 20) (length_at st n) ≡ true
          first_fits = go (fits_alone (size - 20) (length_at st n)) refl
            where
              go : (t : Bool) → fits_alone (size - 20) (length_at st n) ≡ t → t ≡ true
              go true e = refl
              go false e = absurd (zc (as_many ∙ none-fits e))

          pub no_ground : answer_ground st size q ≡ 0
          no_ground = sym (fits-or-long true first_fits)

          -- the lengths and the data that are handed to the writer
          abbrev pl : ℕ
          pl = place_of st n

          abbrev hm : ℕ
          hm = how_many st size n (count_of q)

          the-most : Most (size - 20) (take (count_of q) (drop pl st.lengths)) hm
          the-most = is-the-most st size is-good n (count_of q) is-placed first_fits some

          within : hm ≤ length st.lengths - pl
          within = within-store st size is-good n (count_of q) is-placed first_fits some

          first_of : take hm (take (count_of q) (drop pl st.lengths)) ≡ take hm (drop pl st.lengths)
          first_of = take-take hm (count_of q) (drop pl st.lengths) (within-wanted st size is-good n (count_of q) is-placed first_fits some)

          their-bytes : p.bytes ≡ total (take hm (drop pl st.lengths))
          unfolding how_many
          their-bytes = ap (λ (x : Picked). x.bytes) picked-most ∙ rw (the-wanted, er) (ap total first_of)

          they-begin : p.from ≡ total (take pl st.lengths)
          they-begin = ap (λ (x : Picked). x.from) picked-most ∙ ap (λ (x : ℕ). total (take x st.lengths)) asked.place

          lengths-are : taken_lengths a p st.lengths ≡ take hm (drop pl st.lengths)
          lengths-are = rw (as_many, asked.place)

          data_is : taken_data p st.joined ≡ take (total (take hm (drop pl st.lengths))) (drop (total (take pl st.lengths)) st.joined)
          data_is = rw (their-bytes, they-begin)

          pub within-so : Within a p st.lengths st.joined
          within-so =
              let w = is-placed.to in
              let t = total-take hm (drop pl st.lengths) in
              let v = total-take pl st.lengths in
              let u = total-drop pl st.lengths in
              record {
                messages = omega (arith, as_many, asked.place, within);
                bytes = omega (arith, their-bytes, they-begin, adds-up);
              }

          pub are_bytes : encoded_cut st.session a.number.0 (taken_lengths a p st.lengths) (taken_data p st.joined) ≡ answer_bytes st size q
          unfolding answer_bytes chosen
          are_bytes = rw (lengths-are, data_is, asked.number, cut-part pl hm st.lengths st.joined)

          is-writable : Writable n (take hm (drop pl st.lengths)) (take (total (take hm (drop pl st.lengths))) (drop (total (take pl st.lengths)) st.joined))
          is-writable =
              let k = length-take-le hm (drop pl st.lengths) (omega (arith, within, length-drop pl st.lengths)) in
              let w = part-whole pl hm st.lengths st.joined adds-up in
              let f = rw first_of at the-most.fits.fit in
              let s = is-good.small in
              let b = is-good.large in
              let m = is-good.numbers in
              let o = is-placed.from in
              let t = is-placed.to in
              let i = within in
              record {
                few = omega arith;
                whole = w;
                number-good = λ (z : n ≡ 0). is-good.nonzero (omega arith);
                numbers_fit = omega arith;
                small = omega arith;
              }

          pub no-packet-ground : packet_ground a.number.0 (taken_lengths a p st.lengths) (taken_data p st.joined) ≡ 0
          no-packet-ground = rw (lengths-are, data_is, asked.number) (not-writable _ _ _ is-writable)

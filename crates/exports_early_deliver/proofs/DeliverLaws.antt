-- What a call comes to: refused as `eiderwagon_early_take` is, 41 for too few places, or all laid.
use Prim.Native.Nat.{ℕ, ◌≤◌, ◌<◌}
use mathlib.Core.List.{List, [], ◌∷◌}
use mathlib.Core.Bool.{Bool, true, false}
use mathlib.Core.Path.{◌≡◌, refl, ap, ap₂, sym, ◌∙◌}
use native.Mathlib.Omega.{arith}
use lib.ListN.{length}
use lib.Dec.{ltb}
use borrow.Rule.Slice.PartMut.{mid_of}
use borrow.Author.Tests.{ne_eqb, eq-eqb, lt-ltb, le-ltb, ltb-true}
use Rattle.wire.specs.Output.{put}
use Rattle.wire.proofs.Cases.{zero_or_not}
use Rattle.wire.proofs.Outputs.{put-none, put-empty}
use Rattle.moldudp64.specs.Downstream.{refusal_of}
use Rattle.early_holding.specs.declared.holding.EarlyReceiver.{EarlyReceiver}
use Rattle.early_holding.specs.Holding.{Lent, lent}
use Rattle.early_receiver.specs.Early.{early_refusal, request_of, early_answer}
use Rattle.host_answers.specs.Answers.{or_else, short, state_ladder, on_success, is_one_of, RefusesOnly}
use Rattle.host_answers.proofs.AnswerLaws.{or-first, or-next, or-none}
use Rattle.host_answers.proofs.OnlyLaws.{only-or, only-short, only-state, only-within, within, answers-only}
use Rattle.host_cursor.proofs.DatagramLaws.{datagram_grounds, datagram-only}
use Rattle.host_early.specs.Early.{early_in, lent_in}
use Rattle.host_early.proofs.EarlyLaws.{lengths-long}
use Rattle.exports_early.specs.Calls.{TakesLent}
use Rattle.exports_early.proofs.TakeLaws.{length-said, not-kept, own-only}
use Rattle.exports_early.proofs.RunLaws.{ladder-own, code_is}
use Rattle.exports_early_deliver.specs.Places.{places_delivered}
use Rattle.exports_early_deliver.specs.Calls.{DeliversLent}
use Rattle.exports_early_deliver.proofs.PlaceLaws.{refused-places}

-- ---- the ladder

-- too few places, a ground among others, change nothing where there is another
ladder-more : (r g : ℕ) (a b : Bool) → (r ≡ 0 → ⊥) → r ≡ or_else g (short b) → r ≡ or_else (or_else g (short a)) (short b)
unfolding or_else short
ladder-more r g a b z e = zero_or_not _ g (λ y. none y a b e) (λ y. e ∙ rw (ne_eqb g 0 y, ne_eqb g 0 y) refl)
  where
    none : g ≡ 0 → (a b : Bool) → r ≡ or_else g (short b) → r ≡ or_else (or_else g (short a)) (short b)
    none y true true e = e ∙ rw y refl
    none y true false e = absurd (z (e ∙ rw y refl))
    none y false b e = e ∙ rw y refl

-- ---- refused as the datagram, the state or the words are

module _ (r : ℕ) (l m ss st d ws ws' ps : List ℕ) (t : TakesLent r l m ss st d ws ws') where
  delivers-refused : (r ≡ 0 → ⊥) → DeliversLent r l m ss st d ws ws' ps ps
  unfolding on_success
  delivers-refused z =
      record {
        answers = record { returns = ladder-more r _ _ _ z t.answers.returns; words = t.answers.words };
        places = rw (ne_eqb r 0 z) refl;
        keeps = t.keeps;
        slots = t.slots;
      }

  pub delivers-short : length l < 157 → DeliversLent r l m ss st d ws ws' ps ps
  unfolding short or_else
  delivers-short h =
      delivers-refused (λ y. zero_or_not _ (refusal_of d)
      (λ z. let e : 41 ≡ 0 = sym (t.answers.returns ∙ rw (z, lt-ltb (length l) 157 h) refl) ∙ y in omega arith)
      (λ z. z (sym (t.answers.returns ∙ rw (ne_eqb (refusal_of d) 0 z, ne_eqb (refusal_of d) 0 z) refl) ∙ y)))

  pub delivers-wordless : length ws < 7 → DeliversLent r l m ss st d ws ws' ps ps
  unfolding short
  delivers-wordless h =
      let own = state_ladder (refusal_of d) (ltb (length l) 157) (early_refusal (lent_in l ss) d) in
      let n = length-said (early_answer (lent_in l ss) d) (request_of (lent_in l ss) d) in
      let is : r ≡ or_else own 41 = t.answers.returns ∙ rw (n, lt-ltb (length ws) 7 h) refl in
      delivers-refused (λ y. zero_or_not _ own (λ z. let e : 41 ≡ 0 = or-next own 41 z ∙ sym is ∙ y in omega arith) (λ z. z (or-first own 41 z ∙ sym is ∙ y)))

-- ---- a state that is long enough, and words that have room, as the code has them: q is the receiver read, b whether the
-- places lack room, and ps' what is left of them

module _ (l ss d ws ps ps' : List ℕ) (room : 157 ≤ length l) (enough : 7 ≤ length ws) (q : EarlyReceiver) (is : q ≡ early_in l) (b : Bool)
    (t : b ≡ ltb (length ps) (length (places_delivered (lent q (mid_of 29 128 l) ss) d))) (g : ps' ≡ put ps 0 (places_delivered (lent q (mid_of 29 128 l) ss) d)) where
  same-lent : lent q (mid_of 29 128 l) ss ≡ lent_in l ss
  same-lent = ap₂ (λ (a : EarlyReceiver) (b : List ℕ). lent a b ss) is (sym (lengths-long l room))

  lacks-so : ltb (length ps) (length (places_delivered (lent_in l ss) d)) ≡ b
  lacks-so = sym (t ∙ ap (λ (s : Lent). ltb (length ps) (length (places_delivered s d))) same-lent)

  laid : ps' ≡ put ps 0 (places_delivered (lent_in l ss) d)
  laid = g ∙ ap (λ (s : Lent). put ps 0 (places_delivered s d)) same-lent

  -- too few places: some are delivered, so it isn't refused
  pub delivers-few : b ≡ true → DeliversLent 41 l l ss ss d ws ws ps ps'
  unfolding on_success short
  delivers-few e =
      let below : length ps < length (places_delivered (lent_in l ss) d) = ltb-true _ _ (lacks-so ∙ e) in
      let free : early_refusal (lent_in l ss) d ≡ 0 = zero_or_not _ (early_refusal (lent_in l ss) d) (λ z. z) (λ z. let n = ap length (refused-places (lent_in l ss) d z) in absurd (omega arith)) in
      let own : state_ladder (refusal_of d) false (early_refusal (lent_in l ss) d) ≡ 0 = ladder-own (lent_in l ss) d ∙ free in
      let n = length-said (early_answer (lent_in l ss) d) (request_of (lent_in l ss) d) in
      record {
        answers = record { returns = rw (le-ltb (length l) 157 room, lacks-so ∙ e, n, le-ltb (length ws) 7 enough) (or-next _ 41 own ∙ or-none _); words = refl };
        places = laid ∙ put-none ps 0 _ (omega arith);
        keeps = not-kept l ss d 41 (λ n. omega arith);
        slots = refl;
      }

  -- all are laid
  pub delivers_all : (r : ℕ) (m st ws' : List ℕ) → b ≡ false → TakesLent r l m ss st d ws ws' → DeliversLent r l m ss st d ws ws' ps ps'
  unfolding on_success short
  delivers_all r m st ws' e x =
      let own = state_ladder (refusal_of d) (ltb (length l) 157) (early_refusal (lent_in l ss) d) in
      record {
        answers = record { returns = x.answers.returns ∙ rw (lacks-so ∙ e, ← or-none own) refl; words = x.answers.words };
        places = zero_or_not _ r (λ z. rw (eq-eqb r 0 z) laid)
            (λ z. rw (ne_eqb r 0 z) (laid ∙ ap (put ps 0) (refused-places (lent_in l ss) d (λ y. z (code_is x enough room ∙ y))) ∙ put-empty ps 0));
        keeps = x.keeps;
        slots = x.slots;
      }

-- ---- which refusals

abbrev grounds : List ℕ
grounds = 11 ∷ 12 ∷ 13 ∷ 14 ∷ 15 ∷ 16 ∷ 17 ∷ 18 ∷ 19 ∷ 20 ∷ 41 ∷ []

pub delivers-only : (r : ℕ) (l m ss st d ws ws' ps ps' : List ℕ) → DeliversLent r l m ss st d ws ws' ps ps'
    → RefusesOnly r (11 ∷ 12 ∷ 13 ∷ 14 ∷ 15 ∷ 16 ∷ 17 ∷ 18 ∷ 19 ∷ 20 ∷ 41 ∷ [])
unfolding is_one_of within
delivers-only r l m ss st d ws ws' ps ps' t =
    let read = only-within (refusal_of d) datagram_grounds grounds (datagram-only d) refl in
    let own = only-state (refusal_of d) (ltb (length l) 157) (early_refusal (lent_in l ss) d) grounds read (own-only (lent_in l ss) d) refl in
    answers-only r _ ws ws' _ grounds t.answers (only-or _ _ grounds own (only-short _ grounds refl)) refl

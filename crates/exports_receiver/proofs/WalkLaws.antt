-- A walk by calls visits what is delivered, and then stops.
use Prim.Native.Nat.{ℕ, zero, suc, ◌<◌, ◌≤◌}
use mathlib.Core.List.{List, [], ◌++◌}
use mathlib.Core.Bool.{Bool, true, false}
use mathlib.Core.Path.{◌≡◌, refl, ap, sym, ◌∙◌}
use native.Mathlib.Omega.{arith}
use lib.ListN.{length, get_or, take, drop, drop_of_length-le, get_or-append}
use lib.Seq.{drop-cons}
use lib.Dec.{ltb}
use borrow.Author.Tests.{le-ltb, eq-eqb}
use Rattle.wire.specs.Output.{put}
use Rattle.wire.proofs.Cases.{below_or_not}
use Rattle.wire.proofs.Outputs.{length-put}
use Rattle.moldudp64_messages.specs.declared.cursor.Cursor.{Cursor}
use Rattle.moldudp64_messages.specs.Cursor.{located, advanced, advanced_by}
use Rattle.receiver.specs.Delivery.{Visits}
use Rattle.feed.specs.Session.{Datagram, Message}
use Rattle.host_answers.specs.Answers.{or_else, short, flag}
use Rattle.host_answers.proofs.AnswerLaws.{or-next}
use Rattle.host_answers.proofs.PromiseLaws.{host-promises}
use Rattle.host_states.specs.States.{on_step}
use Rattle.host_cursor.specs.Cursor.{cursor_size, cursor_in}
use Rattle.host_cursor.specs.Calls.{located_words, SetsCursor, NextMessage}
use Rattle.host_receiver.proofs.TakenLaws.{kept-size}
use Rattle.exports_receiver.specs.Run.{Walked, stop, next}

-- a code without a ground is 0 where there are words enough
no_ground : (r g n k : ℕ) → r ≡ or_else g (short (ltb n k)) → g ≡ 0 → k ≤ n → r ≡ 0
unfolding short
no_ground r g n k e z h = e ∙ rw (le-ltb n k h) (sym (or-next g 0 z))

flag-zero : (b : Bool) → flag b ≡ 0 → b ≡ false
flag-zero true e = absurd (omega arith)
flag-zero false e = refl

flag_one : (b : Bool) → flag b ≡ 1 → b ≡ true
flag_one true e = refl
flag_one false e = absurd (omega arith)

differ : true ≡ false → ⊥
differ e = let z : ◌≡◌ {A = ℕ} 0 1 = cc in omega arith

-- moves one by one
moves-one : (i : ℕ) (l : List ℕ) (c : Cursor) → advanced l (advanced_by i l c) ≡ advanced_by (suc i) l c
unfolding advanced_by
moves-one zero l c = refl
moves-one (suc i) l c = moves-one i l (advanced l c)

-- ---- one call

module _ {r : ℕ} {l m d ws ws' : List ℕ} (t : NextMessage r l m d ws ws') (h : cursor_size ≤ length l) (k : 3 ≤ length ws) where
  next-code : r ≡ 0
  unfolding short
  next-code = no_ground r _ (length ws) 3 t.answers.returns (rw (le-ltb (length l) cursor_size h) refl) k

  next-words : ws' ≡ located_words (located d (cursor_in l)) ++ drop 3 ws
  next-words = host-promises.success_lays_its_words.words r ws ws' _ _ t.answers next-code

  word : (i : ℕ) → i < 3 → get_or ws' i 0 ≡ get_or (located_words (located d (cursor_in l))) i 0
  word i j = rw next-words (get_or-append (located_words (located d (cursor_in l))) (drop 3 ws) 0 i j)

  laid : (located d (cursor_in l)).exists ≡ true → on_step r (flag (located d (cursor_in l)).exists) ≡ true
  unfolding on_step
  laid e = rw (e, eq-eqb r 0 next-code)

  moved : (located d (cursor_in l)).exists ≡ true → cursor_in m ≡ advanced d (cursor_in l)
  moved e = t.keeps.reads_back (laid e) h

  moved-size : (located d (cursor_in l)).exists ≡ true → length m ≡ length l
  moved-size e =
      let put-there : m ≡ put l 0 _ = rw (laid e) at t.keeps.leaves in
      rw put-there (length-put l 0 _)

-- ---- a walk, from message i on

module _ (d : Datagram) (c : Cursor) (messages : List Message) (count : ℕ) (v : Visits d messages c count) where
  walk : {l : List ℕ} {ms : List Message} (i : ℕ) → cursor_size ≤ length l → cursor_in l ≡ advanced_by i d c → Walked d l ms → ms ≡ drop i messages
  walk {l} i h e (stop r ws ws' k t z) =
      let none : (located d (advanced_by i d c)).exists ≡ false = rw e at (flag-zero (located d (cursor_in l)).exists (sym (word t h k 0 (omega arith)) ∙ z)) in
      let past : count ≤ i = below_or_not _ i count (λ j. absurd (differ (sym (v.there i j) ∙ none))) (λ j. j) in
      sym (drop_of_length-le messages {i = i} (omega (arith, v.as_many)))
  walk {l} i h e (next {m = m} {ms = ms} r ws ws' k t z w) =
      let here : (located d (cursor_in l)).exists ≡ true = flag_one (located d (cursor_in l)).exists (sym (word t h k 0 (omega arith)) ∙ z) in
      let some : (located d (advanced_by i d c)).exists ≡ true = rw e at here in
      let before : i < count = below_or_not _ i count (λ j. j) (λ j. absurd (differ (sym some ∙ v.stops i j))) in
      let rest : ms ≡ drop (suc i) messages = walk (suc i) (omega (arith, moved-size t h k here)) (moved t h k here ∙ ap (advanced d) e ∙ moves-one i d c) w in
      let bytes : take (get_or ws' 2 0) (drop (get_or ws' 1 0) d) ≡ get_or messages i [] =
      rw (word t h k 2 (omega arith), word t h k 1 (omega arith), e) (v.each i) in
      rw (bytes, rest) (sym (drop-cons messages i [] (omega (arith, v.as_many))))

  -- from where a cursor is set
  pub walked : {q : ℕ} {a m : List ℕ} {ms : List Message} → cursor_size ≤ length a → SetsCursor q a m c → Walked d m ms → ms ≡ messages
  unfolding short advanced_by
  walked {q} {a} {m} h s w =
      let z : q ≡ 0 = s.returns ∙ rw (le-ltb (length a) cursor_size h) in
      let size : length m ≡ length a = kept-size s.keeps z in
      walk 0 (omega arith) (s.keeps.reads_back (eq-eqb q 0 z) h) w

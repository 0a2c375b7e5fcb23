-- A run of calls is the run of order 6's receiver, and gives what it delivers.
use Prim.Native.Nat.{ℕ, ◌+◌, ◌-◌, ◌*◌, ◌<◌, ◌≤◌, min}
use mathlib.Core.List.{List, [], ◌∷◌, ◌++◌}
use mathlib.Core.Path.{◌≡◌, refl, ap, sym, ◌∙◌}
use native.Mathlib.Omega.{arith}
use lib.ListN.{length, get_or, take, drop, length-append, get_or-append}
use lib.Seq.{take_at}
use borrow.Author.Tests.{eq-eqb, le-ltb}
use Rattle.wire.specs.Output.{put}
use Rattle.wire.specs.Words.{Case, answer, refused, says}
use Rattle.wire.proofs.Words.{which-of}
use Rattle.wire.proofs.Outputs.{put-room}
use Rattle.moldudp64.specs.Header.{number_of}
use Rattle.receiver.specs.Table.{AnswerKind, deliver, old, quiet, ask, ended}
use Rattle.receiver.specs.Receiver.{table_row}
use Rattle.receiver.proofs.TableLaws.{row-answer}
use Rattle.feed.specs.Session.{Datagram, Message}
use Rattle.feed.specs.Machine.{after, delivered}
use Rattle.early_holding.specs.Holding.{Lent, next_of}
use Rattle.early_receiver.specs.Early.{early_refusal, lent_after, request_of, answer_by, early_answer}
use Rattle.early_messages.specs.Delivery.{delivered_count, messages_at, delivery}
use Rattle.early_messages.proofs.ReachLaws.{opens, Moves, Step, moves, stays, step}
use Rattle.early_messages.proofs.CountLaws.{few}
use Rattle.early_condition_3.specs.Condition3.{keeper}
use Rattle.host_answers.specs.Answers.{short, padded, words_at, on_success}
use Rattle.host_answers.proofs.AnswerLaws.{or-none}
use Rattle.host_answers.proofs.PromiseLaws.{host-promises}
use Rattle.host_receiver.specs.Replies.{answer_number}
use Rattle.host_receiver.proofs.SaidLaws.{length-words, deliver-word}
use Rattle.host_early.specs.Early.{lent_in}
use Rattle.host_early.specs.Replies.{row_words, ask_words}
use Rattle.exports_early.specs.Calls.{TakesLent}
use Rattle.exports_early.specs.Run.{Hands}
use Rattle.exports_early.proofs.RunLaws.{code_is, took, took-size}
use Rattle.exports_early_deliver.specs.Places.{places_delivered, parts_in, PlacesAreMessages, EnoughPlaces}
use Rattle.exports_early_deliver.specs.Run.{Gets, by_refusal, by_another, by_deliver, DeliverCall, Handed, none, one, HandsOn}
use Rattle.exports_early_deliver.proofs.PlaceLaws.{length-delivered, places_are_messages, enough_places, refused_none, moved-slots}

-- ---- what an answer says of the messages: deliver with their number, or another and none

data Said (s : Lent) (d : Datagram) : Type 0 where
  tells : Moves s d → early_answer s d ≡ says deliver (next_of s.receiver ∷ delivered_count s d ∷ (next_of s.receiver - number_of d) ∷ []) → Said s d
  says_none : (get_or (row_words (early_answer s d)) 0 0 ≡ 1 → ⊥) → delivered_count s d ≡ 0 → Said s d

other : (c : Case AnswerKind) (n f k : ℕ) → (c ≡ answer deliver → ⊥) → get_or (row_words (answer_by c n f k)) 0 0 ≡ 1 → ⊥
unfolding answer_by words_at padded answer_number
other (answer deliver) n f k z e = z refl
other (answer old) n f k z e = omega arith
other (answer quiet) n f k z e = omega arith
other (answer ask) n f k z e = omega arith
other (answer ended) n f k z e = omega arith
other refused n f k z e = omega arith

accepted : (s : Lent) (d : Datagram) → early_refusal s d ≡ 0
    → early_answer s d ≡ answer_by (table_row s.receiver.base d).reply.which (next_of s.receiver) (number_of d) (next_of (lent_after s d).receiver)
unfolding early_answer
accepted s d z = rw (eq-eqb _ 0 z) refl

said : (s : Lent) (d : Datagram) → early_refusal s d ≡ 0 → Said s d
unfolding answer_by delivered_count
said s d z = go (step s d)
  where
    go : Step s d → Said s d
    go (moves g) =
        let row = which-of (sym (row-answer s.receiver.base d (opens s d z).plain) ∙ g.answers) in
        tells g (accepted s d z ∙ rw (row, capped (next_of (lent_after s d).receiver - next_of s.receiver) (few s d)) refl)
      where
        capped : (n : ℕ) → n ≤ 65535 → min 65535 n ≡ n
        capped n h = omega arith
    go (stays g) =
        let o = opens s d z in
        says_none (λ e. other _ _ _ _ (λ y. g.silent o.slots o.lengths (which-of (row-answer s.receiver.base d o.plain) ∙ y)) (rw (accepted s d z) at e))
        (omega (arith, g.number))

none-delivered : (s : Lent) (d : Datagram) → delivered_count s d ≡ 0 → [] ≡ delivery s d
unfolding messages_at
none-delivered s d e = rw e refl

-- what is laid in front of the places is read back
front-laid : (ps bs : List ℕ) (n : ℕ) → length bs ≡ n → n ≤ length ps → take n (put ps 0 bs) ≡ bs
front-laid ps bs n e h = rw (put-room ps 0 bs (omega arith)) (take_at bs (drop (0 + length bs) ps) n e)

-- ---- one call

module _ {l ss : List ℕ} {d : Datagram} {m st : List ℕ} {ms : List Message} (t : DeliverCall l ss d m st ms) (h : 157 ≤ length l) where
  abbrev s : Lent
  s = lent_in l ss

  enough : length (places_delivered s d) ≤ length t.places
  unfolding EnoughPlaces
  enough = let e = enough_places s d in let r = t.places_room in omega arith

  -- there are places enough, so that it is a call of take
  takes : TakesLent t.code l m ss st d t.words t.laid
  unfolding short
  takes =
      record {
        answers = record {
          returns = t.call.answers.returns ∙ rw (le-ltb (length t.places) (length (places_delivered s d)) enough, ← or-none _) refl;
          words = t.call.answers.words;
        };
        keeps = t.call.keeps;
        slots = t.call.slots;
      }

  own : t.code ≡ early_refusal s d
  own = code_is takes t.room h

  laid : t.code ≡ 0 → (i : ℕ) → i < 4 → get_or t.laid i 0 ≡ get_or (row_words (early_answer s d)) i 0
  laid z i j =
      let size : length (row_words (early_answer s d)) ≡ 4 = length-words answer_number 4 (early_answer s d).which (early_answer s d).values in
      rw (host-promises.success_lays_its_words.words t.code t.words t.laid _ _ takes.answers z)
      (get_or-append (row_words (early_answer s d) ++ ask_words (request_of s d)) _ 0 i (omega (arith, length-append (row_words (early_answer s d)) (ask_words (request_of s d))))
      ∙ get_or-append (row_words (early_answer s d)) (ask_words (request_of s d)) 0 i (omega arith))

  by-none : t.code ≡ 0 → (get_or t.laid 0 0 ≡ 1 → ⊥) → Said s d → [] ≡ delivery s d
  by-none z n (tells g e) = absurd (n (deliver-word _ _ _ 0 _ _ e (laid z 0 (omega arith))))
  by-none z n (says_none o e) = none-delivered s d e

  by-places : t.code ≡ 0 → get_or t.laid 0 0 ≡ 1 → Said s d → parts_in (take (3 * get_or t.laid 2 0) t.places_laid) st d ≡ delivery s d
  unfolding PlacesAreMessages on_success
  by-places z e (tells g f) =
      let all = places_delivered s d in
      let there : t.places_laid ≡ put t.places 0 all = rw (eq-eqb t.code 0 z) at t.call.places in
      let same : st ≡ ss = (rw (eq-eqb t.code 0 z) at t.call.slots) ∙ moved-slots s d g in
      let front : take (3 * delivered_count s d) t.places_laid ≡ all = rw there (front-laid t.places all (3 * delivered_count s d) (length-delivered s d) (omega (arith, enough, length-delivered s d))) in
      let count : get_or t.laid 2 0 ≡ delivered_count s d = deliver-word _ _ _ 2 _ _ f (laid z 2 (omega arith)) in
      rw (count, front, same) (places_are_messages s d)
  by-places z e (says_none o f) = absurd (o (sym (laid z 0 (omega arith)) ∙ e))

  got : {ns : List Message} → Gets st d t.code t.laid t.places_laid ns → ns ≡ delivery s d
  got (by_refusal z) = none-delivered s d (refused_none s d (λ e. z (own ∙ e)))
  got (by_another z n) = by-none z n (said s d (sym own ∙ z))
  got (by_deliver z e) = by-places z e (said s d (sym own ∙ z))

-- ---- all calls

run : {l ss m st : List ℕ} {ds : List Datagram} {ms : List Message} → 157 ≤ length l → Handed l ss ds m st ms → Hands l ss m st ds ms
unfolding after delivered
run h none = record { leaves = refl; gives = refl }
run {l} {ss} h (one {ds = es} t r) =
    let this = took (takes t h) t.room h in
    let rest = run (omega (arith, took-size (takes t h) t.room h)) r in
    record {
      leaves = rest.leaves ∙ ap (λ (x : Lent). after keeper x es) this;
      gives = rw (got t h t.gets, rest.gives, this) refl;
    }

pub hands_on : HandsOn
unfolding HandsOn
hands_on l ss m st ds ms h r = run h r

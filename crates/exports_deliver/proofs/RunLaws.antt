-- A run of calls is the run of the receiver, and gives what it delivers.
use Prim.Native.Nat.{ℕ, ◌+◌, ◌*◌, ◌<◌, ◌≤◌}
use mathlib.Core.List.{List, [], ◌∷◌}
use mathlib.Core.Path.{◌≡◌, refl, ap, sym, ◌∙◌}
use native.Mathlib.Omega.{arith}
use lib.ListN.{length, get_or, take, drop}
use lib.Seq.{take_at}
use borrow.Author.Tests.{le-ltb}
use Rattle.wire.specs.Output.{put}
use Rattle.wire.specs.Words.{says}
use Rattle.wire.proofs.Outputs.{put-room}
use Rattle.receiver.specs.declared.receiver.Receiver.{Receiver}
use Rattle.receiver.specs.Table.{deliver}
use Rattle.receiver.specs.Receiver.{refusal_for, answer_of, receiver_after}
use Rattle.receiver.specs.Delivery.{messages_delivered}
use Rattle.feed.specs.Session.{Datagram, Message}
use Rattle.feed.specs.Machine.{after, delivered}
use Rattle.receiver.specs.Condition3.{plain}
use Rattle.host_answers.specs.Answers.{short, words_of}
use Rattle.host_answers.proofs.AnswerLaws.{or-none, success}
use Rattle.host_receiver.specs.Receiver.{receiver_size, receiver_in}
use Rattle.host_receiver.specs.Replies.{answer_number}
use Rattle.host_receiver.proofs.RefusalLaws.{said-refusal, whole-ladder}
use Rattle.host_receiver.proofs.SaidLaws.{Says, delivers, gives_none, said, nothing, length-words, word-laid, deliver-word}
use Rattle.host_receiver.proofs.TakenLaws.{same_size, takes-on}
use Rattle.exports_deliver.specs.Places.{places_delivered_at, places_delivered, parts_at, PlacesAreMessages, EnoughPlaces}
use Rattle.exports_deliver.specs.Run.{Gets, by_refusal, by_another, by_deliver, DeliverCall, Handed, none, one, Hands, HandsOn}
use Rattle.exports_deliver.proofs.PlaceLaws.{length-places}
use Rattle.exports_deliver.proofs.MessageLaws.{places_are_messages, enough_places}

-- what is laid in front of the places is read back
pub front-laid : (ps bs : List ℕ) (n : ℕ) → length bs ≡ n → n ≤ length ps → take n (put ps 0 bs) ≡ bs
front-laid ps bs n e h = rw (put-room ps 0 bs (omega arith)) (take_at bs (drop (0 + length bs) ps) n e)

-- ---- one call

module _ {l : List ℕ} {d : Datagram} {m : List ℕ} {ms : List Message} (t : DeliverCall l d m ms) (h : receiver_size ≤ length l) where
  -- there are places enough
  enough : length (places_delivered (answer_of (receiver_in l) d) d) ≤ length t.places
  unfolding EnoughPlaces
  enough = let e = enough_places (receiver_in l) d t.are_bytes in let r = t.places_room in omega arith

  code_is : t.code ≡ refusal_for (receiver_in l) d
  unfolding short
  code_is =
      t.call.answers.returns
      ∙ rw (
        length-words answer_number 4 (answer_of (receiver_in l) d).which (answer_of (receiver_in l) d).values,
        le-ltb (length t.words) 4 t.room,
        le-ltb (length t.places) (length (places_delivered (answer_of (receiver_in l) d) d)) enough,
        le-ltb (length l) receiver_size h,
        said-refusal (receiver_in l) d,
      )
      (sym (or-none _) ∙ sym (or-none _) ∙ sym (whole-ladder (receiver_in l) d))

  took : receiver_in m ≡ receiver_after (receiver_in l) d
  took = takes-on d l m t.code t.call.keeps h code_is

  laid : t.code ≡ 0 → (i : ℕ) → i < 4 → get_or t.laid i 0 ≡ get_or (words_of answer_number 4 (answer_of (receiver_in l) d)) i 0
  laid z i j = word-laid (answer_of (receiver_in l) d) t.code _ t.words t.laid i t.call.answers z j

  -- the words of a deliver answer
  word : (first count skipped i : ℕ) → t.code ≡ 0 → answer_of (receiver_in l) d ≡ says deliver (first ∷ count ∷ skipped ∷ []) → i < 4
      → get_or t.laid i 0 ≡ get_or (1 ∷ first ∷ count ∷ skipped ∷ []) i 0
  word first count skipped i z e j = deliver-word first count skipped i _ _ e (laid z i j)

  places_of : (first count skipped : ℕ) → answer_of (receiver_in l) d ≡ says deliver (first ∷ count ∷ skipped ∷ []) → length (places_delivered (answer_of (receiver_in l) d) d) ≡ 2 * count
  unfolding places_delivered_at
  places_of first count skipped e = rw e (length-places count _ _)

  -- what the host gets, by what the answer says
  by-none : t.code ≡ 0 → (get_or t.laid 0 0 ≡ 1 → ⊥) → Says (answer_of (receiver_in l) d) d → [] ≡ messages_delivered (answer_of (receiver_in l) d) d
  by-none z n (delivers first count skipped e _ _) = absurd (n (word first count skipped 0 z e (omega arith)))
  by-none z n (gives_none o e) = sym e

  by-places : t.code ≡ 0 → get_or t.laid 0 0 ≡ 1 → Says (answer_of (receiver_in l) d) d
      → parts_at (take (2 * get_or t.laid 2 0) t.places_laid) d ≡ messages_delivered (answer_of (receiver_in l) d) d
  unfolding PlacesAreMessages
  by-places z e (delivers first count skipped f _ _) =
      let all = places_delivered (answer_of (receiver_in l) d) d in
      let there : t.places_laid ≡ put t.places 0 all = t.call.places ∙ sym (success t.code _ _ t.places z refl) in
      let size = places_of first count skipped f in
      let front : take (2 * count) t.places_laid ≡ all = rw there (front-laid t.places all (2 * count) size (omega (arith, enough))) in
      rw (word first count skipped 2 z f (omega arith), front) (places_are_messages (receiver_in l) d t.are_bytes)
  by-places z e (gives_none o f) = absurd (o (sym (laid z 0 (omega arith)) ∙ e))

  got : {ns : List Message} → Gets d t.code t.laid t.places_laid ns → ns ≡ messages_delivered (answer_of (receiver_in l) d) d
  got (by_refusal z) = sym (nothing (receiver_in l) d (λ e. z (code_is ∙ e)))
  got (by_another z n) = by-none z n (said (receiver_in l) d (sym code_is ∙ z))
  got (by_deliver z e) = by-places z e (said (receiver_in l) d (sym code_is ∙ z))

  gives : ms ≡ messages_delivered (answer_of (receiver_in l) d) d
  gives = got t.gets

-- ---- all calls

run : {l m : List ℕ} {ds : List Datagram} {ms : List Message} → receiver_size ≤ length l → Handed l ds m ms → Hands l m ds ms
unfolding after delivered
run h none = record { leaves = refl; gives = refl }
run {l} {m} {ds} {ms} h (one {ds = es} t r) =
    let rest = run (omega (arith, same_size _ _ _ t.code t.call.keeps)) r in
    record {
      leaves = rest.leaves ∙ ap (λ (x : Receiver). after plain x es) (took t h);
      gives = rw (gives t h, rest.gives, took t h);
    }

pub hands_on : HandsOn
unfolding HandsOn
hands_on l m ds ms h r = run h r

-- The computed run.
use Prim.Native.Nat.{ℕ, zero, suc, ◌<◌, ◌≤◌}
use mathlib.Core.List.{List, [], ◌∷◌}
use mathlib.Core.Bool.{Bool, true, false}
use mathlib.Core.Path.{◌≡◌, refl}
use native.Mathlib.Omega.{arith}
use lib.ListN.{length, get_or, take, replicate, length-replicate}
use lib.Dec.{ltb}
use borrow.Author.Tests.{ltb-true, le-ltb}
use Rattle.std.specs.Prelude.{if◌then◌else◌}
use Rattle.wire.specs.Bytes.{bytes, number, same_bytes, AreBytes}
use Rattle.wire.specs.Output.{put}
use Rattle.wire.specs.Text.{ascii}
use Rattle.wire.specs.Parts.{first_bytes}
use Rattle.moldudp64.specs.Header.{header, number_of, count_of}
use Rattle.moldudp64.specs.Blocks.{blocks_of, block_length, fits, all_fit, after_blocks, blocks_refusal}
use Rattle.moldudp64.specs.Downstream.{kind_of_count, block_count, refusal_of}
use Rattle.moldudp64.specs.Written.{encoded}
use Rattle.receiver.specs.Table.{table}
use Rattle.receiver.specs.Receiver.{name_by, other_session, end_below, own_refusal, refusal_for, answer_of, receiver_after}
use Rattle.host_answers.specs.Answers.{or_else, short, on_success, padded, words_at}
use Rattle.host_states.specs.Little.{little, little_bytes}
use Rattle.host_states.specs.States.{is_open, open_byte, front_bytes}
use Rattle.host_receiver.specs.Receiver.{receiver_bytes, receiver_in}
use Rattle.host_receiver.specs.Replies.{answer_number}
use Rattle.exports_deliver.specs.Places.{places_at, places_delivered_at, parts_at, most_places}
use Rattle.exports_deliver.specs.Calls.{DeliversDatagram}
use Rattle.exports_deliver.specs.Run.{Gets, by_refusal, by_another, by_deliver, DeliverCall, none, one}
use Rattle.exports_deliver.specs.Example.{at_one, at_three, two_messages, HandedExample}
use Rattle.exports_deliver.proofs.RunLaws.{front-laid}

-- bytes, by a computed test
abbrev small : List ℕ → Bool
small [] = true
small (b ∷ l) = if ltb b 256 then small l else false

are-small : (l : List ℕ) → small l ≡ true → AreBytes l
are-small [] e i = omega arith
are-small (b ∷ l) e i = go (ltb b 256) refl e (are-small l) i
  where
    go : (t : Bool) → ltb b 256 ≡ t → (if t then small l else false) ≡ true → (small l ≡ true → AreBytes l) → (j : ℕ) → get_or (b ∷ l) j 0 < 256
    go true f x k zero = ltb-true b 256 f
    go true f x k (suc j) = k x j
    go false f x k j = let z : ◌≡◌ {A = ℕ} 0 1 = cc in absurd (omega arith)

no_words : List ℕ
no_words = 0 ∷ 0 ∷ 0 ∷ 0 ∷ []

-- places of any length, which is never computed
module _ (ps : List ℕ) (room : most_places ≤ length ps) where
  refused-call : DeliverCall at_one (0 ∷ []) at_one []
  unfolding bytes header blocks_of encoded number same_bytes first_bytes number_of count_of block_length fits all_fit after_blocks blocks_refusal kind_of_count block_count refusal_of table name_by other_session end_below own_refusal refusal_for answer_of receiver_after or_else short on_success padded words_at little little_bytes is_open open_byte front_bytes receiver_bytes receiver_in answer_number put places_at places_delivered_at no_words
  refused-call =
      record {
        are_bytes = are-small (0 ∷ []) refl;
        code = 11;
        words = no_words;
        laid = no_words;
        places = ps;
        places_laid = ps;
        room = omega arith;
        places_room = room;
        call = record { answers = record { returns = refl; words = refl }; places = refl; keeps = record { fits = refl; leaves = refl; reads_back = λ e _. absurd (let z : ◌≡◌ {A = ℕ} 0 1 = cc in omega arith) } };
        gets = by_refusal (λ e. omega arith);
      }

  -- the two messages' places
  two : List ℕ
  two = 22 ∷ 2 ∷ 26 ∷ 0 ∷ []

  got-two : Gets two_messages 0 (1 ∷ 1 ∷ 2 ∷ 0 ∷ []) (put ps 0 two) (ascii "hi" ∷ [] ∷ [])
  unfolding bytes header blocks_of encoded parts_at two
  got-two =
      let g : Gets two_messages 0 (1 ∷ 1 ∷ 2 ∷ 0 ∷ []) (put ps 0 two) (parts_at (take 4 (put ps 0 two)) two_messages) = by_deliver refl refl in
      rw (front-laid ps two 4 refl (omega (arith, room))) at g

  deliver-laid : DeliversDatagram 0 at_one at_three two_messages no_words (1 ∷ 1 ∷ 2 ∷ 0 ∷ []) ps (put ps 0 two)
  unfolding bytes header blocks_of encoded number same_bytes first_bytes number_of count_of block_length fits all_fit after_blocks blocks_refusal kind_of_count block_count refusal_of table name_by other_session end_below own_refusal refusal_for answer_of receiver_after or_else short on_success padded words_at little little_bytes is_open open_byte front_bytes receiver_bytes receiver_in answer_number put places_at places_delivered_at no_words two
  deliver-laid =
      record {
        answers = record { returns = rw (le-ltb (length ps) 4 (omega (arith, room))); words = refl };
        places = refl;
        keeps = record { fits = refl; leaves = refl; reads_back = λ _ _. refl };
      }

  deliver-call : DeliverCall at_one two_messages at_three (ascii "hi" ∷ [] ∷ [])
  unfolding bytes header blocks_of encoded no_words
  deliver-call =
      record {
        are_bytes = are-small two_messages refl;
        code = 0;
        words = no_words;
        laid = 1 ∷ 1 ∷ 2 ∷ 0 ∷ [];
        places = ps;
        places_laid = put ps 0 two;
        room = omega arith;
        places_room = room;
        call = deliver-laid;
        gets = got-two;
      }

  old-call : DeliverCall at_three two_messages at_three []
  unfolding bytes header blocks_of encoded number same_bytes first_bytes number_of count_of block_length fits all_fit after_blocks blocks_refusal kind_of_count block_count refusal_of table name_by other_session end_below own_refusal refusal_for answer_of receiver_after or_else short on_success padded words_at little little_bytes is_open open_byte front_bytes receiver_bytes receiver_in answer_number put places_at places_delivered_at no_words
  old-call =
      record {
        are_bytes = are-small two_messages refl;
        code = 0;
        words = no_words;
        laid = 2 ∷ 0 ∷ 0 ∷ 0 ∷ [];
        places = ps;
        places_laid = put ps 0 [];
        room = omega arith;
        places_room = room;
        call = record { answers = record { returns = rw (le-ltb (length ps) 0 (omega arith)); words = refl }; places = refl; keeps = record { fits = refl; leaves = refl; reads_back = λ _ _. refl } };
        gets = by_another refl (λ e. omega arith);
      }

pub handed-example : HandedExample
unfolding HandedExample
handed-example =
    let ps : List ℕ = replicate most_places 0 in
    let room : most_places ≤ length ps = omega (arith, length-replicate {A = ℕ} most_places 0) in
    one (refused-call ps room) (one (deliver-call ps room) (one (old-call ps room) none))

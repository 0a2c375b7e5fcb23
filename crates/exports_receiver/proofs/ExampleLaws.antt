-- The computed run.
use Prim.Native.Nat.{ℕ, zero, suc, ◌<◌}
use mathlib.Core.List.{List, [], ◌∷◌}
use mathlib.Core.Bool.{Bool, true, false}
use mathlib.Core.Path.{◌≡◌, refl}
use native.Mathlib.Omega.{arith}
use lib.ListN.{get_or}
use lib.Dec.{ltb}
use borrow.Author.Tests.{ltb-true}
use Rattle.std.specs.Prelude.{if◌then◌else◌}
use Rattle.wire.specs.Bytes.{number, bytes, same_bytes, AreBytes}
use Rattle.wire.specs.Output.{put}
use Rattle.wire.specs.Parts.{first_bytes}
use Rattle.wire.specs.Text.{ascii}
use Rattle.moldudp64.specs.Header.{header, number_of, count_of}
use Rattle.moldudp64.specs.Blocks.{block_length, fits, all_fit, after_blocks, blocks_refusal, blocks_of}
use Rattle.moldudp64.specs.Downstream.{kind_of_count, block_count, refusal_of}
use Rattle.moldudp64.specs.Written.{encoded}
use Rattle.moldudp64_messages.specs.Cursor.{located_at, advanced, advanced_by}
use Rattle.receiver.specs.Table.{table}
use Rattle.receiver.specs.Receiver.{name_by, other_session, end_below, own_refusal, refusal_for, answer_of, receiver_after}
use Rattle.receiver.specs.Delivery.{delivery_cursor}
use Rattle.host_answers.specs.Answers.{or_else, short, on_success, padded, words_at}
use Rattle.host_states.specs.Little.{little, little_bytes}
use Rattle.host_states.specs.States.{is_open, open_byte, on_step, front_bytes}
use Rattle.host_cursor.specs.Cursor.{cursor_bytes, cursor_in}
use Rattle.host_receiver.specs.Receiver.{receiver_bytes, receiver_in}
use Rattle.host_receiver.specs.Replies.{answer_number}
use Rattle.exports_receiver.specs.Run.{Walked, stop, next, by_refusal, by_another, by_deliver, TakeCall, none, one}
use Rattle.exports_receiver.specs.Example.{at_one, at_three, two_messages, HandedExample}

-- bytes, by a computed test
abbrev small : List ℕ → Bool
small [] = true
small (b ∷ l) = if ltb b 256 then small l else false

are-small : (l : List ℕ) → small l ≡ true → AreBytes l
are-small [] e i = omega arith
are-small (b ∷ l) e i = go (ltb b 256) refl e (are-small l) i
  where
    go : (t : Bool) → ltb b 256 ≡ t → (if t then small l else false) ≡ true → (small l ≡ true → AreBytes l) → (j : ℕ) → get_or (b ∷ l) j 0 < 256
    go true f x k zero = ltb-true b 256 f
    go true f x k (suc j) = k x j
    go false f x k j = let z : ◌≡◌ {A = ℕ} 0 1 = cc in absurd (omega arith)

no_words : List ℕ
no_words = 0 ∷ 0 ∷ 0 ∷ 0 ∷ []

refused-call : TakeCall at_one (0 ∷ []) at_one []
unfolding number bytes header blocks_of encoded same_bytes first_bytes number_of count_of block_length fits all_fit after_blocks blocks_refusal kind_of_count block_count refusal_of table name_by other_session end_below own_refusal refusal_for answer_of receiver_after or_else short on_success padded words_at little little_bytes is_open open_byte front_bytes receiver_bytes receiver_in answer_number put no_words
refused-call =
    record {
      are_bytes = are-small (0 ∷ []) refl;
      code = 11;
      words = no_words;
      laid = no_words;
      room = omega arith;
      call = record { answers = record { returns = refl; words = refl }; keeps = record { fits = refl; leaves = refl; reads_back = λ e _. absurd (let z : ◌≡◌ {A = ℕ} 0 1 = cc in omega arith) } };
      gets = by_refusal (λ e. omega arith);
    }

-- the cursor at the first message, at the second, and past both
at_start : List ℕ
at_start = 225 ∷ 20 ∷ 0 ∷ 0 ∷ 0 ∷ 0 ∷ 0 ∷ 0 ∷ 0 ∷ 2 ∷ 0 ∷ []

at_second : List ℕ
at_second = 225 ∷ 24 ∷ 0 ∷ 0 ∷ 0 ∷ 0 ∷ 0 ∷ 0 ∷ 0 ∷ 1 ∷ 0 ∷ []

at_end : List ℕ
at_end = 225 ∷ 26 ∷ 0 ∷ 0 ∷ 0 ∷ 0 ∷ 0 ∷ 0 ∷ 0 ∷ 0 ∷ 0 ∷ []

three-words : List ℕ
three-words = 0 ∷ 0 ∷ 0 ∷ []

last-walk : Walked two_messages at_end []
unfolding number bytes header blocks_of encoded same_bytes first_bytes number_of count_of block_length fits all_fit after_blocks blocks_refusal kind_of_count block_count refusal_of table name_by other_session end_below own_refusal refusal_for answer_of receiver_after or_else short on_success padded words_at little little_bytes is_open open_byte front_bytes receiver_bytes receiver_in answer_number put no_words located_at advanced advanced_by delivery_cursor on_step cursor_bytes cursor_in at_start at_second at_end three-words
last-walk =
    stop {m = at_end} 0 three-words (0 ∷ 0 ∷ 0 ∷ []) (omega arith)
    (record { answers = record { returns = refl; words = refl }; keeps = record { fits = refl; leaves = refl; reads_back = λ e _. refl } })
    refl

second_walk : Walked two_messages at_second ([] ∷ [])
unfolding number bytes header blocks_of encoded same_bytes first_bytes number_of count_of block_length fits all_fit after_blocks blocks_refusal kind_of_count block_count refusal_of table name_by other_session end_below own_refusal refusal_for answer_of receiver_after or_else short on_success padded words_at little little_bytes is_open open_byte front_bytes receiver_bytes receiver_in answer_number put no_words located_at advanced advanced_by delivery_cursor on_step cursor_bytes cursor_in at_start at_second at_end three-words
second_walk =
    next {m = at_end} 0 three-words (1 ∷ 26 ∷ 0 ∷ []) (omega arith)
    (record { answers = record { returns = refl; words = refl }; keeps = record { fits = refl; leaves = refl; reads_back = λ _ _. refl } })
    refl last-walk

first_walk : Walked two_messages at_start (ascii "hi" ∷ [] ∷ [])
unfolding number bytes header blocks_of encoded same_bytes first_bytes number_of count_of block_length fits all_fit after_blocks blocks_refusal kind_of_count block_count refusal_of table name_by other_session end_below own_refusal refusal_for answer_of receiver_after or_else short on_success padded words_at little little_bytes is_open open_byte front_bytes receiver_bytes receiver_in answer_number put no_words located_at advanced advanced_by delivery_cursor on_step cursor_bytes cursor_in at_start at_second at_end three-words
first_walk =
    next {m = at_second} 0 three-words (1 ∷ 22 ∷ 2 ∷ []) (omega arith)
    (record { answers = record { returns = refl; words = refl }; keeps = record { fits = refl; leaves = refl; reads_back = λ _ _. refl } })
    refl second_walk

deliver-call : TakeCall at_one two_messages at_three (ascii "hi" ∷ [] ∷ [])
unfolding number bytes header blocks_of encoded same_bytes first_bytes number_of count_of block_length fits all_fit after_blocks blocks_refusal kind_of_count block_count refusal_of table name_by other_session end_below own_refusal refusal_for answer_of receiver_after or_else short on_success padded words_at little little_bytes is_open open_byte front_bytes receiver_bytes receiver_in answer_number put no_words located_at advanced advanced_by delivery_cursor on_step cursor_bytes cursor_in at_start at_second at_end three-words
deliver-call =
    record {
      are_bytes = are-small two_messages refl;
      code = 0;
      words = no_words;
      laid = 1 ∷ 1 ∷ 2 ∷ 0 ∷ [];
      room = omega arith;
      call = record { answers = record { returns = refl; words = refl }; keeps = record { fits = refl; leaves = refl; reads_back = λ _ _. refl } };
      gets = by_deliver {c = at_end} {m = at_start} 0 refl refl (omega arith)
          (record { returns = refl; keeps = record { fits = refl; leaves = refl; reads_back = λ _ _. refl } }) first_walk;
    }

old-call : TakeCall at_three two_messages at_three []
unfolding number bytes header blocks_of encoded same_bytes first_bytes number_of count_of block_length fits all_fit after_blocks blocks_refusal kind_of_count block_count refusal_of table name_by other_session end_below own_refusal refusal_for answer_of receiver_after or_else short on_success padded words_at little little_bytes is_open open_byte front_bytes receiver_bytes receiver_in answer_number put no_words located_at advanced advanced_by delivery_cursor on_step cursor_bytes cursor_in at_start at_second at_end three-words
old-call =
    record {
      are_bytes = are-small two_messages refl;
      code = 0;
      words = no_words;
      laid = 2 ∷ 0 ∷ 0 ∷ 0 ∷ [];
      room = omega arith;
      call = record { answers = record { returns = refl; words = refl }; keeps = record { fits = refl; leaves = refl; reads_back = λ _ _. refl } };
      gets = by_another refl (λ e. omega arith);
    }

pub handed-example : HandedExample
unfolding HandedExample
handed-example = one refused-call (one deliver-call (one old-call none))

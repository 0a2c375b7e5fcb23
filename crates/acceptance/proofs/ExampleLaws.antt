-- Every row of the table passes one computed test, and a row that passes it holds.
use mathlib.Core.List.Memᴰ
use mathlib.Core.List.{List, [], ◌∷◌, Memᴰ}
use mathlib.Core.Logic.{⊎_elim}
use mathlib.Core.Bool.{Bool, true, false}
use mathlib.Core.Path.{◌≡◌, refl}
use Rattle.std.specs.Prelude.{if◌then◌else◌}
use Rattle.wire.specs.Bytes.{number, bytes, same_bytes}
use Rattle.wire.specs.Parts.{first_bytes}
use Rattle.moldudp64.specs.Header.{number_of, count_of, header}
use Rattle.moldudp64.specs.Blocks.{block_length, fits, all_fit, after_blocks, messages, blocks_refusal, blocks_of}
use Rattle.moldudp64.specs.Downstream.{kind_of_count, block_count, refusal_of, downstream_of, messages_of}
use Rattle.moldudp64.specs.Written as mold
use Rattle.receiver.specs.Table.{table}
use Rattle.receiver.specs.Receiver.{other_session, end_below, own_refusal, refusal_for, answer_of, receiver_after}
use Rattle.receiver.specs.Delivery.{messages_delivered_at}
use Rattle.decimal.specs.Decimal.{is_digit, digits_up_to, digits, value_from, are_digits}
use Rattle.text_fields.specs.Letters.{is_letter_or_digit, are_letters_or_digits, leading_spaces, lower}
use Rattle.text_fields.specs.Session.{good_session}
use Rattle.text_fields.specs.Number as field
use Rattle.text_fields.specs.Sound.{word_length, are_spaces, sound}
use Rattle.soupbintcp.specs.Letters.{letter_for, letter_row, sends, allows, plain_of}
use Rattle.soupbintcp.specs.Head as head
use Rattle.soupbintcp.specs.Fields.{has_fields, session_at, session_bytes, number_bytes, blank_allowed, least_number_of, numbered_of, number_fields, with_number, fields_at, fields_of}
use Rattle.soupbintcp.specs.Front.{front_packet, front_at, front_of, packet_at, packet_bytes, session_of, login_part, username_of, password_of}
use Rattle.soupbintcp_writer.specs.Packets as soup
use Rattle.login.specs.Account.{lowered, same_text, sound_account, is_of, has_password, is_known, verdict_of, lookup_of}
use Rattle.login.specs.Decision.{session_holds, number_holds, granted, decision_at}
use Rattle.soupbintcp_server.specs.Server.{server_start_refusal, start_server, login_at, waiting_row, row_at, front_row_at, step_at, entry_of, server_step}
use Rattle.acceptance.specs.Examples.{result_of, ExampleRow, rows, EveryExample}
use Rattle.acceptance.proofs.Same.{first_of, second-of, same, equal}

abbrev holds : ExampleRow → Bool
holds r = same r.example (result_of r.example) r.expected

abbrev every : List ExampleRow → Bool
every [] = true
every (r ∷ rs) = if holds r then every rs else false

each : (rs : List ExampleRow) → every rs ≡ true → (r : ExampleRow) → Memᴰ r rs → result_of r.example ≡ r.expected
each [] e r m = absurd (Memᴰ.not-nil m)
each (x ∷ rs) e r m =
    ⊎_elim
    (λ i. rw i (equal x.example (result_of x.example) x.expected (first_of (holds x) (every rs) e)))
    (each rs (second-of (holds x) (every rs) e) r)
    (Memᴰ.cases_cons m)

-- the test, computed
passes : every rows ≡ true
unfolding number bytes same_bytes first_bytes number_of count_of header block_length fits all_fit after_blocks messages blocks_refusal blocks_of kind_of_count block_count refusal_of downstream_of messages_of mold.encoded table other_session end_below own_refusal refusal_for answer_of receiver_after messages_delivered_at is_digit digits_up_to digits value_from are_digits is_letter_or_digit are_letters_or_digits leading_spaces good_session field.is_number field.read_number field.number_field word_length are_spaces sound letter_for letter_row sends allows plain_of head.packet_length head.letter_of head.head_of has_fields session_at session_bytes number_bytes blank_allowed least_number_of numbered_of number_fields with_number fields_at fields_of front_packet front_at front_of packet_at packet_bytes session_of login_part username_of password_of soup.head_bytes soup.encoded lower lowered same_text sound_account is_of has_password is_known verdict_of lookup_of session_holds number_holds granted decision_at server_start_refusal start_server login_at waiting_row row_at front_row_at step_at entry_of server_step result_of
passes = refl

pub every-example : EveryExample
every-example = each rows passes

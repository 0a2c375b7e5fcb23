-- The example is computed.
use mathlib.Core.Path.{refl}
use Rattle.wire.specs.Bytes.{number, same_bytes}
use Rattle.wire.specs.Parts.{first_bytes}
use Rattle.decimal.specs.Decimal.{is_digit, are_digits, value_from}
use Rattle.text_fields.specs.Letters.{is_letter_or_digit, are_letters_or_digits, leading_spaces, lower}
use Rattle.text_fields.specs.Session.{good_session}
use Rattle.text_fields.specs.Number.{is_number, read_number}
use Rattle.text_fields.specs.Sound.{word_length, are_spaces, sound}
use Rattle.soupbintcp.specs.Letters.{letter_for, letter_row, sends, allows, plain_of}
use Rattle.soupbintcp.specs.Head.{packet_length, letter_of, head_of}
use Rattle.soupbintcp.specs.Fields.{has_fields, session_at, session_bytes, number_bytes, blank_allowed, least_number_of, numbered_of, number_fields, with_number, fields_at, fields_of}
use Rattle.soupbintcp.specs.Front.{front_packet, front_at, front_of, packet_at, packet_bytes, session_of, login_part, username_of, password_of}
use Rattle.login.specs.Account.{lowered, same_text, sound_account, is_of, has_password, is_known, verdict_of, lookup_of}
use Rattle.login.specs.Decision.{session_holds, number_holds, granted, decision_at}
use Rattle.soupbintcp_session.specs.Stream.{run_at, run_up_to, run}
use Rattle.soupbintcp_server.specs.Server.{server_start_refusal, start_server, login_at, waiting_row, in_row, row_at, front_row_at, step_at, entry_of, server_step}
use Rattle.soupbintcp_server.specs.Examples.{replies_of, ServerExample}

pub server-example : ServerExample
unfolding replies_of number same_bytes first_bytes is_digit are_digits value_from is_letter_or_digit are_letters_or_digits leading_spaces good_session is_number read_number word_length are_spaces sound letter_for letter_row sends allows plain_of packet_length letter_of head_of has_fields session_at session_bytes number_bytes blank_allowed least_number_of numbered_of number_fields with_number fields_at fields_of front_packet front_at front_of packet_at packet_bytes session_of login_part username_of password_of lower lowered same_text sound_account is_of has_password is_known verdict_of lookup_of session_holds number_holds granted decision_at server_start_refusal start_server login_at waiting_row in_row row_at front_row_at step_at entry_of server_step run_at run_up_to run
server-example = record { answers = refl; closes = refl; leaves = refl; why = refl }

-- The example is computed.
use mathlib.Core.Path.{refl}
use Rattle.wire.specs.Bytes.{number, same_bytes}
use Rattle.wire.specs.Parts.{first_bytes}
use Rattle.decimal.specs.Decimal.{is_digit, are_digits, value_from}
use Rattle.text_fields.specs.Letters.{is_letter_or_digit, are_letters_or_digits, leading_spaces}
use Rattle.text_fields.specs.Session.{good_session}
use Rattle.text_fields.specs.Number.{is_number, read_number}
use Rattle.soupbintcp.specs.Letters.{letter_for, letter_row, sends, allows, plain_of}
use Rattle.soupbintcp.specs.Head.{packet_length, letter_of, head_of}
use Rattle.soupbintcp.specs.Fields.{has_fields, session_at, session_bytes, number_bytes, blank_allowed, least_number_of, numbered_of, number_fields, with_number, fields_at, fields_of}
use Rattle.soupbintcp.specs.Front.{front_packet, front_at, front_of, packet_at, packet_bytes, session_of}
use Rattle.soupbintcp_session.specs.Answer.{answer_message_at}
use Rattle.soupbintcp_session.specs.Stream.{run_at, run_up_to, run}
use Rattle.soupbintcp_client.specs.Client.{client_start_refusal, start_client, session_asked, number_asked, accepted_row, sequenced_row, asked_row, in_row, row_at, front_row_at, client_step}
use Rattle.soupbintcp_client.specs.HandedUp.{numbered_from, is_sequenced, handed_up}
use Rattle.soupbintcp_client.specs.Examples.{ClientExample}

pub client-example : ClientExample
unfolding number same_bytes first_bytes is_digit are_digits value_from is_letter_or_digit are_letters_or_digits leading_spaces good_session is_number read_number letter_for letter_row sends allows plain_of packet_length letter_of head_of has_fields session_at session_bytes number_bytes blank_allowed least_number_of numbered_of number_fields with_number fields_at fields_of front_packet front_at front_of packet_at packet_bytes session_of answer_message_at session_asked number_asked accepted_row sequenced_row asked_row in_row row_at front_row_at client_step run_at run_up_to run numbered_from is_sequenced handed_up client_start_refusal start_client
client-example = record { hands_up = refl; ends = refl; leaves = refl; why = refl }

-- The rows of the published layouts, computed.
use mathlib.Core.Path.{refl}
use Rattle.wire.specs.Bytes.{number, bytes}
use Rattle.moldudp64.specs.Header.{number_of, count_of, header}
use Rattle.moldudp64.specs.Blocks.{block_length, fits, all_fit, after_blocks, messages, blocks_refusal, blocks_of}
use Rattle.moldudp64.specs.Downstream.{kind_of_count, block_count, refusal_of, downstream_of, downstream_session, messages_of}
use Rattle.moldudp64.specs.Request.{request_ground, request_refusal, request_of, request_session}
use Rattle.moldudp64.specs.Written as mold
use Rattle.decimal.specs.Decimal.{is_digit, digits_up_to, digits, value_from, are_digits}
use Rattle.text_fields.specs.Letters.{is_letter_or_digit, are_letters_or_digits, leading_spaces}
use Rattle.text_fields.specs.Session.{good_session}
use Rattle.text_fields.specs.Number as field
use Rattle.soupbintcp.specs.Letters.{letter_for, letter_row, sends, allows, plain_of}
use Rattle.soupbintcp.specs.Head as head
use Rattle.soupbintcp.specs.Fields.{has_fields, session_at, session_bytes, number_bytes, blank_allowed, least_number_of, numbered_of, number_fields, with_number, good_reason, reason_fields, fields_at, fields_of}
use Rattle.soupbintcp.specs.Front.{front_packet, front_at, front_of, packet_at, packet_bytes, session_of, login_part, username_of, password_of}
use Rattle.soupbintcp_writer.specs.Packets as soup
use Rattle.acceptance.specs.Layouts.{EveryLayout}

pub every-layout : EveryLayout
unfolding number bytes number_of count_of header block_length fits all_fit after_blocks messages blocks_refusal blocks_of kind_of_count block_count refusal_of downstream_of downstream_session messages_of request_ground request_refusal request_of request_session mold.encoded mold.encoded_end is_digit digits_up_to digits value_from are_digits is_letter_or_digit are_letters_or_digits leading_spaces good_session field.is_number field.read_number field.number_field letter_for letter_row sends allows plain_of head.packet_length head.letter_of head.head_of has_fields session_at session_bytes number_bytes blank_allowed least_number_of numbered_of number_fields with_number good_reason reason_fields fields_at fields_of front_packet front_at front_of packet_at packet_bytes session_of login_part username_of password_of soup.head_bytes soup.encoded soup.login_payload soup.accepted_payload
every-layout =
    record {
      data_read = refl;
      data_session = refl;
      data_messages = refl;
      data_written = refl;
      long_data_read = refl;
      long_data_messages = refl;
      long_data_written = refl;
      heartbeat_read = refl;
      heartbeat_written = refl;
      end_read = refl;
      end_written = refl;
      reads_request = refl;
      session_of_request = refl;
      request_written = refl;
      login_read = refl;
      login_username = refl;
      login_password = refl;
      login_session = refl;
      login_written = refl;
      accepted_read = refl;
      accepted_session = refl;
      accepted_written = refl;
      debug_read = refl;
      debug_of_client = refl;
      debug_written = refl;
      rejected_read = refl;
      rejected_written = refl;
      sequenced_read = refl;
      sequenced_written = refl;
      long_sequenced_read = refl;
      long_sequenced_written = refl;
      server_heartbeat_read = refl;
      server_heartbeat_written = refl;
      session_end_read = refl;
      session_end_written = refl;
      unsequenced_read = refl;
      unsequenced_written = refl;
      client_heartbeat_read = refl;
      client_heartbeat_written = refl;
      logout_read = refl;
      logout_written = refl;
    }
